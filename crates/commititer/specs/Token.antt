-- The tokens of one commit's header (document 01, "Header lines": "The reader goes over one lent commit line by line, as
-- `CommitRefIter` does."). A place says which line may stand there: the tree, "then parents", "then `author `", "then `committer `". Each
-- line is read as crate `object` defines it. Assumes nothing.
use Rattle.std.specs.Prelude.{ℕ, ◌+◌, ◌*◌, ◌-◌, Bool, true, false, List, [], length, drop, ltb, None, Option, Some}
use Rattle.hash.specs.Bytes.{Id, pick}
use Rattle.object.specs.Ids.{padded}
use Rattle.object.specs.Header.{tree_size, parent_size, id_line, tree_word, parent_word, author_line, Stamped, committer_line}
use Rattle.object.specs.Read.{stamp_given}
use Rattle.commititer.specs.declared.State.{State}
use Rattle.commititer.specs.declared.State.TheVariants.{Tree as TreeLine, Parents as ParentLines, Committer as CommitterLine, Done}
use Rattle.commititer.specs.declared.Place.{Place}
use Rattle.commititer.specs.declared.Token.{Token}
use Rattle.commititer.specs.declared.Token.TheVariants.{Tree, Parent, Author, Committer, Bad, End}

-- a place by its offset and the line that may stand there, and the start of a body
abbrev pub here : ℕ → State → Place
here i s = record { at = i; state = s }

abbrev pub start : Place
start = here 0 TreeLine

-- a parent's token
abbrev pub parent_token : Id → Token
parent_token x = Parent (record { bytes = padded x })

-- a good line: its token, and what follows it that is still to be read
abbrev pub Told : Type 0
Told = Option (Token × List ℕ)

abbrev pub tree_told : Option (Id × List ℕ) → Told
tree_told None = None
tree_told (Some t) = Some (Tree, t.1)

abbrev pub author_told : Option (List ℕ) → Told
author_told None = None
author_told (Some r) = Some (Author, r)

abbrev pub parent_told : Option (Id × List ℕ) → Told → Told
parent_told None other = other
parent_told (Some t) other = Some (parent_token t.0, t.1)

-- nothing is read after the committer line
abbrev pub committer_told : Option Stamped → Told
committer_told None = None
committer_told (Some s) = Some (Committer (stamp_given s), [])

-- the line at the front of a list, by which line may stand there: the tree line; a parent line, else the author line; the committer line;
-- none
unfoldable pub line_in : ℕ → State → List ℕ → Told
line_in w TreeLine b = tree_told (id_line w tree_word b)
line_in w ParentLines b = parent_told (id_line w parent_word b) (author_told (author_line b))
line_in w CommitterLine b = committer_told (committer_line b)
line_in w Done b = None

unfoldable pub line_at : ℕ → List ℕ → Place → Told
line_at w b p = line_in w p.state (drop p.at b)

-- where no good line stands: a bad one, or the end
abbrev pub missing : List ℕ → ℕ → Token
missing b i = pick (ltb i (length b)) Bad End

abbrev pub no_line : State → List ℕ → ℕ → Token
no_line TreeLine b i = missing b i
no_line ParentLines b i = missing b i
no_line CommitterLine b i = missing b i
no_line Done b i = End

abbrev pub token_of : List ℕ → Place → Told → Token
token_of b p None = no_line p.state b p.at
token_of b p (Some t) = t.0

-- which line may stand after a token: "then parents", "then `author `" (where no parent line stands), "then `committer `"; after the
-- committer, a bad line and the end nothing is read
abbrev pub after : Token → State
after Tree = ParentLines
after (Parent x) = ParentLines
after Author = CommitterLine
after (Committer s) = Done
after Bad = Done
after End = Done

abbrev pub is_done : State → Bool
is_done TreeLine = false
is_done ParentLines = false
is_done CommitterLine = false
is_done Done = true

-- the place after a line: where what follows it begins; where nothing more is read, the body's end
abbrev pub ended : List ℕ → Place
ended b = here (length b) Done

abbrev pub place_of : List ℕ → Told → Place
place_of b None = ended b
place_of b (Some t) = here (length b - length t.1) (after t.0)

-- the token that stands at a place, and the place after it
unfoldable pub token_at : ℕ → List ℕ → Place → Token
token_at w b p = token_of b p (line_at w b p)

unfoldable pub after_token : ℕ → List ℕ → Place → Place
after_token w b p = place_of b (line_at w b p)

-- the place after the tree line and k parent lines; where that is no number of 64 bits, the last such number, which no body reaches
abbrev pub last : ℕ
last = 18446744073709551615

unfoldable pub parents_place : ℕ → ℕ → Place
parents_place w k =
    let i : ℕ = tree_size w + parent_size w * k in
    here (pick (ltb last i) last i) ParentLines

-- opens every definition of this file, for theorems that compute
unfoldable pub token_all : Unit {0}
unfolding line_in line_at token_at after_token parents_place
token_all = tt
