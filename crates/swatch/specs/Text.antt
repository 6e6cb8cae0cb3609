-- What the program `swatches` prints (document 01, the last of "Eight runs and a skewed clock"), byte by byte. Assumes nothing.
use Rattle.std.specs.Prelude.{ℕ, zero, suc, ◌+◌, ◌/◌, ◌%◌, Bool, true, false, cond, List, [], ◌∷◌, ◌++◌, length, take, drop, ltb, leb}
use Rattle.hash.specs.Bytes.{Id, id_bytes}
use Rattle.hash.specs.declared.Kind.TheVariants.{Sha1}
use Rattle.object.specs.Ids.{id_in}
use Rattle.walk.specs.declared.Settings.{Settings}
use Rattle.walk.specs.declared.Sorting.TheVariants.{BreadthFirst}
use Rattle.walk.specs.declared.Parents.TheVariants.{All}
use Rattle.walk.specs.declared.Refusal.{Refusal}
use Rattle.walk.specs.declared.Refusal.TheVariants.{InputTooLarge}
use Rattle.walk.specs.declared.Outcome.{Outcome}
use Rattle.walk.specs.declared.Outcome.TheVariants.{Commit, End, Refused}
use Rattle.walk.specs.Refusals.{number_of}
use Rattle.walk.specs.Opening.{Input, Lengths, P, room_for, Opening, closed, opened, open_walk}
use Rattle.walk.specs.Next.{Kind, end, refused, handed, Answer}
use Rattle.walk.specs.Calls.{answers}
use Rattle.walk.specs.Given.{parents_given}

-- ---- numbers and ids as text

-- a hexadecimal digit, in lower case
unfoldable pub hex_digit : ℕ → ℕ
hex_digit d = cond (ltb d 10) (48 + d) (87 + d)

-- two digits a byte, the higher half first
unfoldable pub hex : List ℕ → List ℕ
hex [] = []
hex (x ∷ xs) = hex_digit (x / 16) ∷ hex_digit (x % 16) ∷ hex xs

-- a number in decimal, of at most k digits
unfoldable pub decimal_in : ℕ → ℕ → List ℕ
decimal_in zero n = []
decimal_in (suc k) n = cond (ltb n 10) ((48 + n) ∷ []) (decimal_in k (n / 10) ++ ((48 + n % 10) ∷ []))

-- a 64-bit number has at most 20 digits
unfoldable pub decimal : ℕ → List ℕ
decimal n = decimal_in 20 n

-- ---- lines

abbrev pub newline : List ℕ
newline = 10 ∷ []

-- a commit: its hexadecimal digits, "space, … (parents), newline"
unfoldable pub commit_line : Id → ℕ → List ℕ
commit_line x n = hex x ++ (32 ∷ (decimal n ++ newline))

-- "A refusal prints `! `, its number and a newline"
unfoldable pub refusal_line : Refusal → List ℕ
refusal_line r = 33 ∷ 32 ∷ (decimal (number_of r) ++ newline)

-- "`end`, newline"
unfoldable pub end_line : List ℕ
end_line = 101 ∷ 110 ∷ 100 ∷ 10 ∷ []

unfoldable pub line_of : Kind → ℕ → List ℕ
line_of end n = end_line
line_of (refused r) n = refusal_line r
line_of (handed x g t) n = commit_line x n

abbrev pub is_end : Kind → Bool
is_end end = true
is_end (refused r) = false
is_end (handed x g t) = false

-- the answers' lines up to and with the first that says end: "[a refusal] from a call doesn't [stop the program]"
unfoldable pub lines_of : List Answer → List ℕ
lines_of [] = []
lines_of (a ∷ rest) = line_of a.kind (length a.parents) ++ cond (is_end a.kind) [] (lines_of rest)

-- the buffer parents after these answers, up to and with the first that says end
unfoldable pub parents_after : List Answer → List ℕ → List ℕ
parents_after [] b = b
parents_after (a ∷ rest) b = cond (is_end a.kind) (parents_given a b) (parents_after rest (parents_given a b))

-- the same line, of an answer as the code gives it, with the id by value
unfoldable pub line_given : ℕ → Outcome → Id → ℕ → List ℕ
line_given w Commit x n = commit_line (id_in w x) n
line_given w End x n = end_line
line_given w (Refused r) x n = refusal_line r

-- ---- the input

-- "at most 65,536 bytes in all"
abbrev pub most_bytes : ℕ
most_bytes = 65536

-- "An empty book is 8 zero bytes"
abbrev pub empty_store : List ℕ
empty_store = 0 ∷ 0 ∷ 0 ∷ 0 ∷ 0 ∷ 0 ∷ 0 ∷ 0 ∷ []

-- "breadth, All", and ids of 20 bytes
abbrev pub breadth_all : Settings
breadth_all = record { sorting = BreadthFirst; parents = All; kind = Sha1 }

-- "reads a 20-byte tip, then a book … Under 20 bytes, all are the tip list and the book is 8 zero bytes"
unfoldable pub tips_in : List ℕ → List ℕ
tips_in b = take id_bytes b

unfoldable pub store_in : List ℕ → List ℕ
store_in b = cond (ltb (length b) id_bytes) empty_store (drop id_bytes b)

unfoldable pub input_in : List ℕ → Input
input_in b = record { store = store_in b; graph = []; tips = tips_in b; hidden = []; excluded = []; settings = breadth_all }

-- ---- the text

-- "one from opening stops the program". Call P + 2 at latest says end, so no more answers are asked for
unfoldable pub text_of : Input → Opening → List ℕ
text_of i (closed r) = refusal_line r
text_of i (opened st) = lines_of (answers i (P i + 2))

unfoldable pub parents_of : Input → Opening → List ℕ → List ℕ
parents_of i (closed r) b = b
parents_of i (opened st) b = parents_after (answers i (P i + 2)) b

-- what is printed of these bytes, with working memory of these lengths lent; "over 65,536 prints `! 2`"
unfoldable pub text : List ℕ → Lengths → List ℕ
text b l =
    let t = text_of (input_in b) (open_walk (input_in b) (room_for (input_in b) l)) in
    cond (leb (length b) most_bytes) t (refusal_line InputTooLarge)
