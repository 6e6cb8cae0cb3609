-- Laws of a body that is read line by line: the token at a place says what stands there; under a good tree line that is what the header says; and the
-- walk's `ending` by how the reading ends. Assumes nothing.
use Rattle.std.specs.Prelude.{None, Option, Some}
use mathlib.Core.Path.{◌≡◌, refl, sym, ◌∙◌, ap}
use Prim.Native.Nat.{ℕ, ◌≤◌, ◌<◌}
use mathlib.Core.Bool.{true, false, not, ◌&&◌}
use mathlib.Core.List.{List, []}
use native.Mathlib.Omega.{arith}
use lib.ListN.{length, drop, get_or}
use borrow.Author.Tests.{lt-ltb, le-ltb}
use Rattle.hash.specs.Bytes.{Id, if_some}
use Rattle.hash.proofs.Tests.{by_cases}
use Rattle.object.specs.Ids.{id_room, id_in}
use Rattle.object.specs.Header.{Header, header, id_line, parent_word, author_line, most}
use Rattle.object.specs.Read.{id_read, parent_at}
use Rattle.object.specs.declared.ObjectId.{ObjectId}
use Rattle.object.proofs.IdBytes.{id_in_lem}
use Rattle.object.proofs.Headers.{header_lines, parent-read, parent-width}
use Rattle.walk.specs.declared.Settings.{Settings}
use Rattle.walk.specs.declared.Refusal.TheVariants.{CommitUnreadable}
use Rattle.walk.specs.Settings.{only_first}
use Rattle.walk.specs.State.{is_empty}
use Rattle.walk.specs.Next.{ending}
use Rattle.commititer.specs.Token.{here, parent_told, author_told, line_in, line_at, missing, token_of, token_at, parents_place}
use Rattle.commititer.specs.Tokens.{id_told}
use Rattle.commititer.specs.declared.Token.{Token}
use Rattle.commititer.specs.declared.Token.TheVariants.{Parent}
use Rattle.commititer.proofs.Agree.{no-id, is-missing}
use Rattle.commititer.specs.declared.State.TheVariants.{Parents as ParentLines}
use Rattle.commititer.proofs.ParentsPlace.{place-few}
use Rattle.reading.specs.Body.{end_of, refusal_of, parent_place, no_bytes, parent_id_at}

-- ---- the id at a place where parents may stand

-- an id by value, zeros where there is none
bytes_or : Option ObjectId → Id
bytes_or o = if_some o no_bytes (λ x. x.bytes)

here-id : (w : ℕ) (b : List ℕ) (i : ℕ) → id_told (token_at w b (here i ParentLines)) ≡ parent_at w b i
unfolding token_at line_at line_in parent_at
here-id w b i = go (id_line w parent_word (drop i b)) (author_line (drop i b))
  where
    missing-id : id_told (missing b i) ≡ None
    missing-id = no-id (missing b i) (is-missing b i).parent

    go : (o : Option (Id × List ℕ)) (p : Option (List ℕ)) → id_told (token_of b (here i ParentLines) (parent_told o (author_told p))) ≡ id_read o
    go None None = missing-id
    go None (Some r) = refl
    go (Some t) p = refl

id-here : (w : ℕ) (b : List ℕ) (k : ℕ) → k < most → parent_id_at w b k ≡ bytes_or (parent_at w b (parent_place w k))
unfolding parent_id_at bytes_or
id-here w b k h = rw (lt-ltb k most h)

id_near : (w : ℕ) → w ≤ id_room → (b : List ℕ) (k : ℕ) {t : Token} → k < most → t ≡ token_at w b (parents_place w k) → if_some (id_told t) no_bytes (λ x. x.bytes) ≡ parent_id_at w b k
unfolding bytes_or
id_near w small b k h read =
    ap (λ (r : Token). bytes_or (id_told r)) (read ∙ ap (token_at w b) (place-few w k small (omega arith))) ∙ ap bytes_or (here-id w b (parent_place w k)) ∙ sym (id-here w b k h)

-- the token where a parent may stand is one, or none
pub id-there : (w : ℕ) → w ≤ id_room → (b : List ℕ) (k : ℕ) {t : Token} {x : ObjectId} → k < most → t ≡ token_at w b (parents_place w k) → t ≡ Parent x → x.bytes ≡ parent_id_at w b k
id-there w small b k h read e = ap (λ (r : Token). if_some (id_told r) no_bytes (λ y. y.bytes)) (sym e) ∙ id_near w small b k h read

pub id_gone : (w : ℕ) → w ≤ id_room → (b : List ℕ) (k : ℕ) {t : Token} {r : Id} → k < most → t ≡ token_at w b (parents_place w k) → id_told t ≡ None → r ≡ no_bytes → r ≡ parent_id_at w b k
id_gone w small b k h read e z = z ∙ ap (λ (o : Option ObjectId). if_some o no_bytes (λ y. y.bytes)) (sym e) ∙ id_near w small b k h read

pub id_far : (w : ℕ) (b : List ℕ) (k : ℕ) {r : Id} → most ≤ k → r ≡ no_bytes → r ≡ parent_id_at w b k
unfolding parent_id_at
id_far w b k h e = rw (le-ltb k most h) e

-- the id of a parent stands in its value
pub parent-right : (w : ℕ) → w ≤ id_room → (b : List ℕ) (k : ℕ) → (header w b).tree ≡ true → k < length (header w b).ids → id_in w (parent_id_at w b k) ≡ get_or (header w b).ids k []
unfolding bytes_or
parent-right w small b k g l =
    ap (id_in w) (id-here w b k (omega (arith, l, (header_lines w b g).few)) ∙ ap bytes_or (parent-read w b g k l))
    ∙ id_in_lem w (get_or (header w b).ids k []) (parent-width w b g k l) small

-- ---- the walk's `ending`, by how the reading ends

pub ending-tree : (s : Settings) (h : Header) → h.tree ≡ false → ending s h ≡ Some CommitUnreadable
unfolding ending
ending-tree s h e = rw e

-- "save where First has stopped"
pub ending_stopped : (s : Settings) (h : Header) → h.tree ≡ true → (only_first s && not (is_empty h.ids)) ≡ true → ending s h ≡ None
unfolding ending
ending_stopped s h e f = rw (e, f)

pub ending-read : (s : Settings) (h : Header) → h.tree ≡ true → (only_first s && not (is_empty h.ids)) ≡ false → ending s h ≡ refusal_of (end_of h)
unfolding ending end_of
ending-read s h e f =
    by_cases h.crowded (λ c. rw (e, f, c)) λ c.
    by_cases h.author (λ a. rw (e, f, c, a)) (λ a. rw (e, f, c, a))
