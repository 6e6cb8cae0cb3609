-- What holds of taking the next commit on any bytes, files and numbers (document 01: "a call gives some answer of this paper"). Assumes
-- nothing.
use Rattle.std.specs.Prelude.{ℕ, ◌*◌, ◌≤◌, ◌≡◌, List, length, get_or, None}
use Rattle.hash.specs.Bytes.{Id}
use Rattle.object.specs.Ids.{padded}
use Rattle.object.specs.Header.{most}
use Rattle.walk.specs.declared.Outcome.{Outcome}
use Rattle.walk.specs.declared.Outcome.TheVariants.{Commit, End, Refused}
use Rattle.walk.specs.declared.Refusal.{Refusal}
use Rattle.walk.specs.declared.Refusal.TheVariants.{CommitNotFound, TooManyParents}
use Rattle.walk.specs.AnyInput.{OfCall}
use Rattle.walk.specs.Given.{Given, no_id}

-- "A refusal or end carries no id, level or seconds (zeros there)"; card 7: the zone is none "in a refusal or end"
pub record Bare (a : Given) : Type 0 where
  pub no-id : a.info.id ≡ no_id
  pub no-generation : a.info.generation ≡ None
  pub no-time : a.info.time ≡ None
  pub no-zone : a.info.zone ≡ None

-- the parents that a refusal counts: 9 comes before any line is read; 11 at "a good 257th parent line", when 256 ids are read
pub record Counted (r : Refusal) (n : ℕ) : Type 0 where
  pub lost : r ≡ CommitNotFound → n ≡ 0
  pub crowded : r ≡ TooManyParents → n ≡ most

-- a commit, whose id is width bytes wide; the end, with no parents; or refusal 9, 10 or 11, with "ids already read … counted in the answer"
abbrev pub ShapedBy : ℕ → Outcome → Given → Type 0
ShapedBy width Commit a = (x : Id) × (length x ≡ width) × (a.info.id ≡ padded x)
ShapedBy width End a = Bare a × (a.info.parents ≡ 0)
ShapedBy width (Refused r) a = Bare a × OfCall r × Counted r a.info.parents

-- an answer of document 01, with the buffer parents before and after it: at most 256 parents are counted, and "parents past the ids given
-- keeps its bytes"
pub record Plain (width : ℕ) (b b' : List ℕ) (a : Given) : Type 0 where
  pub shape : ShapedBy width a.outcome a
  pub few : a.info.parents ≤ most
  pub past : (k : ℕ) → width * a.info.parents ≤ k → get_or b' k 0 ≡ get_or b k 0
