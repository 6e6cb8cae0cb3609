-- Embargoed readings (document 02, card 10): "If two books differ only in feed digits of embargoed runs, of equal length, with all else alike":
-- what that is, byte for byte. Assumes nothing.
use Rattle.std.specs.Prelude.{◌≡◌, ℕ, ◌<◌, Bool, true, false, cond, ◌&&◌, List, [], ◌∷◌, ◌++◌, length, drop, eqb}
use Rattle.hash.specs.Bytes.{Id, among}
use Rattle.idlist.specs.IdList.{id_of}
use Rattle.actor.specs.Person.{digit}
use Rattle.odb.specs.Store.{start, entries, entry_ids, body, store_is_ok}
use Rattle.feed.specs.Feed.{cone_start, bed_start, message_of, lines_of}

-- ---- one body

-- what follows a start, up to the line's end: each byte is the same, or both are decimal digits
pub data SameButDigits : List ℕ → List ℕ → Type 0 where
  no_more : SameButDigits [] []
  same_byte : {x : ℕ} {s t : List ℕ} → SameButDigits s t → SameButDigits (x ∷ s) (x ∷ t)
  other-digit : {x y : ℕ} {s t : List ℕ} → digit x ≡ true → digit y ≡ true → SameButDigits s t → SameButDigits (x ∷ s) (y ∷ t)

-- a line of a message is the same, or has the same start and other feed digits
pub data SameLine : List ℕ → List ℕ → Type 0 where
  same_line : {l : List ℕ} → SameLine l l
  cone-line : {s t : List ℕ} → SameButDigits s t → SameLine (cone_start ++ s) (cone_start ++ t)
  bed-line : {s t : List ℕ} → SameButDigits s t → SameLine (bed_start ++ s) (bed_start ++ t)

-- line by line
pub data SameLines : List (List ℕ) → List (List ℕ) → Type 0 where
  no_lines : SameLines [] []
  one_more : {l m : List ℕ} {ls ms : List (List ℕ)} → SameLine l m → SameLines ls ms → SameLines (l ∷ ls) (m ∷ ms)

-- what stands before the message, up to and with the newline of the first empty line (card 5: "what follows the first empty line")
unfoldable pub head_from : Bool → List ℕ → List ℕ
head_from fresh [] = []
head_from fresh (x ∷ xs) = let r = head_from (eqb x 10) xs in x ∷ cond (eqb x 10 && fresh) [] r

unfoldable pub before_message : List ℕ → List ℕ
before_message b = head_from true b

-- two bodies: all that stands before the message is the same, and the messages are the same but for feed digits
pub record SameButFeed (c d : List ℕ) : Type 0 where
  pub before : before_message c ≡ before_message d
  pub message : SameLines (lines_of (message_of c)) (lines_of (message_of d))

-- ---- two stores

-- two good stores of equal length, with the same entries and trailer; the body of each entry is the same, and of an embargoed id the same but for
-- feed digits. (A torn store has no commits: two that differ in none of their readings are the same.)
pub record DifferOnlyInFeed (w : ℕ) (embargoed : List Id) (a b : List ℕ) : Type 0 where
  pub good : store_is_ok w a ≡ true
  pub same_length : length a ≡ length b
  pub same_entries : drop (start a) a ≡ drop (start a) b
  pub others : (k : ℕ) → k < entries a → among (id_of (entry_ids w a) k) embargoed ≡ false → body w a k ≡ body w b k
  pub embargoed_ones : (k : ℕ) → k < entries a → among (id_of (entry_ids w a) k) embargoed ≡ true → SameButFeed (body w a k) (body w b k)

unfoldable pub embargo_all : Unit {0}
unfolding head_from before_message
embargo_all = tt
