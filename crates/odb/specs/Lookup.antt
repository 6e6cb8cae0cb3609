-- What a lookup in the commit store answers: where a body lies, and the body itself. Assumes nothing.
use Rattle.std.specs.Prelude.{ℕ, ◌-◌, ◌≤◌, ◌<◌, ◌≡◌, Bool, true, false, cond, ◌&&◌, List, [], length, leb, ltb, None, Option, Some}
use Rattle.hash.specs.Bytes.{Id, at, if_some}
use Rattle.idlist.specs.IdList.{id_of, rising, find_in, found_of}
use Rattle.odb.specs.Store.{entry_ids, body_start, body_end, body, standing, standing_entries, store_is_ok, find_entry, store_find}
use Rattle.odb.specs.declared.Located.{Located}
use Rattle.odb.specs.declared.Located.TheVariants.{Body, Absent}

-- the bytes s up to e are a part of the file
unfoldable pub is_part : List ℕ → ℕ → ℕ → Bool
is_part b s e = leb s e && leb e (length b)

-- the bytes s up to e as an answer, where they are a part of the file
unfoldable pub part_at : List ℕ → ℕ → ℕ → Located
part_at b s e = cond (is_part b s e) (Body s e) Absent

-- where the body of an entry lies
abbrev pub located_of : ℕ → List ℕ → Option ℕ → Located
located_of w b None = Absent
located_of w b (Some k) = Body (body_start w b k) (body_end w b k)

-- the part of the file that an answer names, empty where it names none
unfoldable pub part_of : List ℕ → Located → List ℕ
part_of b (Body s e) = let r = at b s (e - s) in cond (is_part b s e) r []
part_of b Absent = []

-- the id and the body of entry k, where it is one of the standing entries; the body where it is a part of the file. Else empty
unfoldable pub entry_id : ℕ → List ℕ → ℕ → Id
entry_id w b k = cond (ltb k (standing_entries w b)) (id_of (entry_ids w b) k) []

unfoldable pub entry_body : ℕ → List ℕ → ℕ → List ℕ
entry_body w b k =
    let r = part_of b (part_at b (body_start w b k) (body_end w b k)) in
    cond (ltb k (standing_entries w b)) r []

-- the answer names a body
abbrev pub is_body : Located → Bool
is_body (Body s e) = true
is_body Absent = false

-- the ids of the standing entries rise
abbrev pub ids_rise : ℕ → List ℕ → Bool
ids_rise w b = rising (entry_ids w b) (standing_entries w b)

-- the answer for the id x among the standing entries: the body of the first under x, where it is a part of the file
unfoldable pub looked_up : ℕ → List ℕ → Id → Located
looked_up w b x = if_some (find_in (entry_ids w b) x (standing_entries w b)) Absent (λ k. part_at b (body_start w b k) (body_end w b k))

-- entry k stands in the file, and under the id x
pub record Under (w : ℕ) (b : List ℕ) (x : Id) (k : ℕ) : Type 0 where
  pub stands : k < standing_entries w b
  pub is : id_of (entry_ids w b) k ≡ x

-- which entry a search finds for the id x: it stands in the file, and under x; wherever the ids rise, the first under x
pub record FindsEntry (w : ℕ) (b : List ℕ) (x : Id) (r : Option ℕ) : Type 0 where
  pub hit : (k : ℕ) → r ≡ Some k → Under w b x k × (length x ≡ w)
  pub rises : ids_rise w b ≡ true → r ≡ found_of (find_in (entry_ids w b) x (standing_entries w b))

-- what `locate` and `locate_near` answer for the id x. On a good store: the body of the entry under x. Wherever the ids rise, good store or not: what is looked
-- up. On any bytes: a part of them that is the body of an entry under x, or none; none where the entries do not stand or x has another width.
-- (Among ids that do not rise one may be missed: which, is not said.)
pub record Locates (w : ℕ) (b : List ℕ) (x : Id) (r : Located) : Type 0 where
  pub good : store_is_ok w b ≡ true → r ≡ located_of w b (find_entry w b x)
  pub rises : ids_rise w b ≡ true → r ≡ looked_up w b x
  pub inside : (s e : ℕ) → r ≡ Body s e → (s ≤ e) × (e ≤ length b)
  pub hit : (s e : ℕ) → r ≡ Body s e → (k : ℕ) × Under w b x k × (s ≡ body_start w b k) × (e ≡ body_end w b k)
  pub torn : standing w b ≡ false → r ≡ Absent
  pub foreign : (length x ≡ w → ⊥) → r ≡ Absent

-- a value that stands where a test says so
abbrev pub option_of : Bool → List ℕ → Option (List ℕ)
option_of true r = Some r
option_of false r = None

-- what `try_find` answers for the id x: the same, said of the bytes of the body
pub record TriesFind (w : ℕ) (b : List ℕ) (x : Id) (found : Bool) (r : List ℕ) : Type 0 where
  pub good : store_is_ok w b ≡ true → option_of found r ≡ store_find w b x
  pub rises : ids_rise w b ≡ true → (found ≡ is_body (looked_up w b x)) × (r ≡ part_of b (looked_up w b x))
  pub part : (s : ℕ) × (n : ℕ) × (r ≡ at b s n)
  pub absent : found ≡ false → r ≡ []
  pub hit : found ≡ true → (k : ℕ) × Under w b x k × (r ≡ body w b k)
  pub torn : standing w b ≡ false → (found ≡ false) × (r ≡ [])
  pub foreign : (length x ≡ w → ⊥) → (found ≡ false) × (r ≡ [])

-- the number that a lookup of the id x notes in place of n: of an entry that stands under x, or n still; wherever the ids rise, of the first
-- under x, and n where there is none
pub record NotesEntry (w : ℕ) (b : List ℕ) (x : Id) (n n' : ℕ) : Type 0 where
  pub under : (n' ≡ n → ⊥) → Under w b x n'
  pub rises : ids_rise w b ≡ true → n' ≡ if_some (find_in (entry_ids w b) x (standing_entries w b)) n (λ k. k)

unfoldable pub lookup_all : Unit {0}
unfolding is_part part_at part_of entry_id entry_body looked_up
lookup_all = tt
