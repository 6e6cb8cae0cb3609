-- What a next call reads of a commit's body, line by line. Assumes nothing.
use Rattle.std.specs.Prelude.{◌≡◌, ℕ, ◌+◌, ◌*◌, ◌≤◌, Bool, true, List, length, take, get_or, replicate, ltb, None, Option, Some}
use Rattle.hash.specs.Bytes.{Id, if_some, pick, set_down}
use Rattle.object.specs.Header.{Header, header, tree_size, parent_size, most}
use Rattle.object.specs.Ids.{id_room}
use Rattle.object.specs.Read.{parent_at}
use Rattle.walk.specs.declared.Settings.{Settings}
use Rattle.walk.specs.declared.Refusal.{Refusal}
use Rattle.walk.specs.declared.Refusal.TheVariants.{CommitUnreadable, TooManyParents}
use Rattle.walk.specs.Settings.{only_first, followed}
use Rattle.walk.specs.Next.{ending}
use Rattle.walk.specs.Given.{joined}
use Rattle.reading.specs.declared.body.BodyEnd.{BodyEnd}
use Rattle.reading.specs.declared.body.BodyEnd.TheVariants.{Whole, Unreadable, Crowded}
use Rattle.reading.specs.declared.body.BodyRead.{BodyRead}

-- "After the parents of a commit from the book the author line must be good"; 11: "a good 257th parent line; of 10 and 11 the earlier
-- line decides": how the reading of a header with a good tree line ends after all its parents
unfoldable pub end_of : Header → BodyEnd
end_of h = pick h.crowded Crowded (pick h.author Whole Unreadable)

-- the refusal of an end
abbrev pub refusal_of : BodyEnd → Option Refusal
refusal_of Whole = None
refusal_of Unreadable = Some CommitUnreadable
refusal_of Crowded = Some TooManyParents

-- the place of parent line k, after the tree line and k parent lines
abbrev pub parent_place : ℕ → ℕ → ℕ
parent_place w k = tree_size w + parent_size w * k

-- an id by value that is none: zeros
abbrev pub no_bytes : Id
no_bytes = replicate id_room 0

-- the id of parent line k by value, on any bytes: zeros where no parent line stands, and past the 256th
unfoldable pub parent_id_at : ℕ → List ℕ → ℕ → Id
parent_id_at w b k = pick (ltb k most) (if_some (parent_at w b (parent_place w k)) no_bytes (λ x. x.bytes)) no_bytes

-- how many parents are read at most
abbrev pub most_read : Bool → ℕ
most_read first = pick first 1 most

-- the ids of n parents of the body d stand end to end at the start of b': all of them, or the first alone. What stands past n ids is as it was in
-- b, whatever d holds
pub record PutsParents (w : ℕ) (first : Bool) (d b b' : List ℕ) (n : ℕ) : Type 0 where
  pub count : (header w d).tree ≡ true → n ≡ length (take (most_read first) (header w d).ids)
  pub down : (header w d).tree ≡ true → w * most ≤ length b → b' ≡ set_down b 0 (joined (take n (header w d).ids))
  pub past : (k : ℕ) → w * n ≤ k → get_or b' k 0 ≡ get_or b k 0

-- after all parents of a header with a good tree line, of which there are k: whether there is one too many, and how the reading ends
pub record IsCrowded (h : Header) (k : ℕ) (r : Bool) : Type 0 where
  pub is : h.tree ≡ true → k ≡ length h.ids → r ≡ h.crowded

pub record EndsAfter (h : Header) (k : ℕ) (r : BodyEnd) : Type 0 where
  pub is : h.tree ≡ true → k ≡ length h.ids → r ≡ end_of h

-- the parents of a header that the mode follows, with their ids end to end at the start of b', and why the header is refused. What stands past the
-- ids is as it was in b, whatever the header
pub record ReadsBody (w : ℕ) (first : Bool) (h : Header) (b b' : List ℕ) (r : BodyRead) : Type 0 where
  pub parents : (s : Settings) → only_first s ≡ first → r.parents ≡ length (followed s h.ids)
  pub ends : (s : Settings) → only_first s ≡ first → refusal_of r.ends ≡ ending s h
  pub down : w * most ≤ length b → b' ≡ set_down b 0 (joined (take r.parents h.ids))
  pub past : (k : ℕ) → w * r.parents ≤ k → get_or b' k 0 ≡ get_or b k 0
