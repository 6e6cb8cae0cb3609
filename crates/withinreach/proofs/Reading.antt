-- The function with the memo: what is recalled is so, and what is found out is noted. Assumes nothing.
use Rattle.std.specs.Prelude.{◌≢◌, Ok, Err}
use mathlib.Core.Path.{◌≡◌, refl, sym, ◌∙◌, ap, subst}
use mathlib.Core.Logic.{◌⊎◌, inl, inr, ⊎_elim}
use Prim.Native.Nat.{ℕ, zero, suc, ◌+◌, ◌-◌, ◌<◌, ◌≤◌}
use mathlib.Core.Bool.{Bool, true, false}
use mathlib.Core.List.{List, []}
use native.Mathlib.Omega.{arith}
use lib.ListN.{length, get_or}
use lib.Dec.{eqb, ltb}
use borrow.Author.Tests.{ltb-true, ltb-false}
use Rattle.hash.specs.Bytes.{Id}
use Rattle.hash.proofs.Tests.{by_cases, not_yes}
use Rattle.date.specs.declared.Stamp.{Stamp}
use Rattle.object.specs.Header.{header}
use Rattle.object.specs.Ids.{id_in, id_room}
use Rattle.object.specs.declared.ReadableHeader.{ReadableHeader}
use Rattle.object.specs.Read.{reading_of, Reading, readable_as}
use Rattle.object.specs.declared.ObjectId.{ObjectId}
use Rattle.odb.specs.Store.{standing_entries, store_is_ok}
use Rattle.walk.specs.Reach.{links}
use Rattle.walk.specs.Demand.{Readable as IsReadable}
use Rattle.reading.specs.Body.{parent_id_at}
use Rattle.reading.specs.Stored.{GivesBody}
use Rattle.reading.proofs.StoredBodies.{stored-readable, stored-err}
use Rattle.memo.specs.Cells.{code_of, recalled, noted}
use Rattle.memo.specs.AtHand.{store_alone, EntryOf, ParentsIn}
use Rattle.memo.proofs.Cells.{recall-known, note-holds, code_test, before_or_at}
use Rattle.memo.proofs.Parents.{parents_in}
use Rattle.withinreach.specs.Within.{readable, readable_within}
use Rattle.withinreach.specs.Remembered.{all_read, Remembers, Reads}
use Rattle.withinreach.proofs.Steps.{readable-is, is-readable, within-unreadable, within-still, within-not, within-so}

-- the loop over the parents in the body b: all is readable from the first i
pub record Stepping (width : ℕ) (s : List ℕ) (e : ℕ) (b m₀ m : List ℕ) (i : ℕ) : Type 0 where
  pub long : length m ≡ length m₀
  pub so_far : store_is_ok width s ≡ true → Remembers width s m₀ → Remembers width s m × ((j : ℕ) → j < i → readable_within e (store_alone width s) (id_in width (parent_id_at width b j)) ≡ true)

pub stepping_first : (width : ℕ) (s : List ℕ) (e : ℕ) (b m : List ℕ) → Stepping width s e b m m 0
stepping_first width s e b m = record { long = refl; so_far = λ ok h. (h, λ j l. absurd (omega arith)) }

pub stepping_next : {width : ℕ} {s : List ℕ} {e : ℕ} {b m₀ m : List ℕ} {i : ℕ} {m' : List ℕ} {r : Bool} (z : ObjectId) → Stepping width s e b m₀ m i → z.bytes ≡ parent_id_at width b i → Reads width s e (id_in width z.bytes) m m' r → r ≡ true
    → length m' ≡ length m → Stepping width s e b m₀ m' (i + 1)
stepping_next {width} {s} {e} {b} {i = i} z v p o q l = record {
  long = l ∙ v.long;
  so_far = λ ok h.
      let a = v.so_far ok h in
      let u = o.right ok a.0 in
      let here : readable_within e (store_alone width s) (id_in width (parent_id_at width b i)) ≡ true = ap (λ (c : Id). readable_within e (store_alone width s) (id_in width c)) (sym p) ∙ sym u.0 ∙ q in
      (u.1, λ j g. ⊎_elim (λ d. subst (λ (c : ℕ). readable_within e (store_alone width s) (id_in width (parent_id_at width b c)) ≡ true) (sym d) here) (λ d. a.1 j d) (before_or_at i j g));
}

module _ (width : ℕ) (s : List ℕ) {n : ℕ} (sn : n ≡ standing_entries width s) (k : ℕ) {x : Id} (o : EntryOf width s n x k) (d : ℕ) where
  pub read_known : {m : List ℕ} {r : ℕ} → r ≡ recalled m n k false d → (r ≡ 0 → ⊥) → Reads width s d x m m (eqb r 2)
  read_known {m} {r} e z = record {
    right = λ ok h.
        let f : r ≡ recalled m (standing_entries width s) k false d = e ∙ ap (λ (q : ℕ). recalled m q k false d) sn in
        let g = recall-known h k false d (λ y. z (f ∙ y)) in
        (ap (λ (q : ℕ). eqb q 2) (f ∙ g.1) ∙ code_test (all_read width s k false d) ∙ ap (λ (y : Id). readable_within d (store_alone width s) y) (o.is (omega (arith, g.0))), h);
  }

  pub note-read : {m m' : List ℕ} {r : Bool} → m' ≡ noted m n k false d r → r ≡ readable_within d (store_alone width s) x → Remembers width s m → Remembers width s m'
  note-read {m} {m'} {r} e q h =
      subst (Remembers width s) (sym (e ∙ ap (λ (i : ℕ). noted m i k false d r) sn))
      (note-holds h k false d r (λ l. ap (λ (y : Id). readable_within d (store_alone width s) y) (o.is (omega arith)) ∙ sym q))

  -- the commit is not readable
  pub read-not : {b m : List ℕ} → GivesBody width s x b → ((h : ReadableHeader) → reading_of (header width b) ≢ Ok h) → Reads width s d x m m false
  read-not {b} {m} v z = record { right = λ ok h. (sym (within-unreadable (store_alone width s) x d (not_yes (λ e. bars ok (reading_of (header width b)) refl (readable-is (store_alone width s) x e)))), h) }
    where
      bars : store_is_ok width s ≡ true → (r : Reading) → reading_of (header width b) ≡ r → IsReadable (store_alone width s) x → ⊥
      bars ok (Ok r) e i = absurd (z r e)
      bars ok (Err r) e i = stored-err v ok [] r e i

  -- it is
  module _ (small : width ≤ id_room) {b : List ℕ} (v : GivesBody width s x b) (c : ℕ) (t : Stamp) (e : reading_of (header width b) ≡ readable_as c t) where
    is-good : store_is_ok width s ≡ true → readable (store_alone width s) x ≡ true
    is-good ok = is-readable (store_alone width s) x (stored-readable v ok [] c t e)

    parents : store_is_ok width s ≡ true → ParentsIn width s x b c
    parents ok = parents_in small v ok (readable_as c t) e

    pub read-still : {m m' : List ℕ} → d ≡ 0 → m' ≡ noted m n k false d true → Reads width s d x m m' true
    read-still z f = record { right = λ ok h. let q : true ≡ readable_within d (store_alone width s) x = sym (within-still (store_alone width s) x d z ∙ is-good ok) in (q, note-read f q h) }

    module _ (z : d ≡ 0 → ⊥) {m m₁ : List ℕ} {i : ℕ} (l : Stepping width s (d - 1) b m m₁ i) where
      one_more : d ≡ suc (d - 1)
      one_more = omega (arith, z)

      pub read_found : {m₂ m₃ : List ℕ} {q : Bool} (u : ObjectId) → i < c → u.bytes ≡ parent_id_at width b i → Reads width s (d - 1) (id_in width u.bytes) m₁ m₂ q → q ≡ false → m₃ ≡ noted m₂ n k false d false
          → Reads width s d x m m₃ false
      read_found {m₂} {m₃} {q} u low w j y f = record {
        right = λ ok h.
            let p = parents ok in
            let a = l.so_far ok h in
            let g = j.right ok a.0 in
            let there : readable_within (d - 1) (store_alone width s) (get_or (links (store_alone width s) x) i []) ≡ false =
            ap (λ (r : Id). readable_within (d - 1) (store_alone width s) r) (sym (ap (id_in width) w ∙ p.each i low)) ∙ sym g.0 ∙ y in
            let so : false ≡ readable_within d (store_alone width s) x =
            sym (ap (λ (r : ℕ). readable_within r (store_alone width s) x) one_more ∙ within-not (store_alone width s) x (is-good ok) (d - 1) i (omega (arith, p.count)) there) in
            (so, note-read f so g.1);
      }

      pub read-ended : {m₂ : List ℕ} → c ≤ i → m₂ ≡ noted m₁ n k false d true → Reads width s d x m m₂ true
      read-ended {m₂} low f = record {
        right = λ ok h.
            let p = parents ok in
            let a = l.so_far ok h in
            let every : (j : ℕ) → j < length (links (store_alone width s) x) → readable_within (d - 1) (store_alone width s) (get_or (links (store_alone width s) x) j []) ≡ true =
            λ j r. ap (λ (y : Id). readable_within (d - 1) (store_alone width s) y) (sym (p.each j (omega (arith, p.count)))) ∙ a.1 j (omega (arith, p.count)) in
            let so : true ≡ readable_within d (store_alone width s) x = sym (ap (λ (r : ℕ). readable_within r (store_alone width s) x) one_more ∙ within-so (store_alone width s) x (is-good ok) (d - 1) every) in
            (so, note-read f so a.0);
      }

pub read_as : {width : ℕ} {s : List ℕ} {d : ℕ} {x y : Id} {m m' : List ℕ} {r : Bool} → x ≡ y → Reads width s d x m m' r → Reads width s d y m m' r
read_as {width} {s} {d} {m = m} {m'} {r} e v = subst (λ (y : Id). Reads width s d y m m' r) e v
