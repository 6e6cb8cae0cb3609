-- An id gets the mark of a search: where it stands in a slot that lacks it, the slot gets another live mark; where it is new, the table
-- gains one slot. Either way the mark of one id changes and no other. Assumes nothing.
use mathlib.Core.Path.{◌≡◌, refl, sym, ◌∙◌, ap, subst}
use Prim.Native.Nat.{ℕ, ◌<◌}
use mathlib.Core.Bool.{Bool, true, false}
use mathlib.Core.List.{List}
use native.Mathlib.Omega.{arith}
use lib.ListN.{get_or, set}
use Rattle.hash.specs.Bytes.{Id}
use Rattle.hash.proofs.Tests.{by_cases, clash}
use Rattle.hashtable.specs.Marks.{live}
use Rattle.hashtable.specs.Table.{Holds, Table, mark_for, Finds, Inserts}
use Rattle.hashtable.specs.declared.table.Slot.{Slot}
use Rattle.hashtable.specs.declared.table.Slot.TheVariants.{Found, Vacant, Full as TableFull}
use Rattle.hashtable.proofs.TableKept.{remark, remark-holds}
use Rattle.hashtable.proofs.TableView.{mark-held, remark-this, remark-other, vacant-mark, new-holds, old-holds, new-mark, other-mark}
use Rattle.reach.specs.declared.notes.Marking.{Marking}
use Rattle.reach.specs.declared.notes.Marking.TheVariants.{Known, Full}
use Rattle.reach.specs.Memory.{most_slots, has_bit, with_bit, fresh_at, Raises, Gained, ToldMark, MarksId}
use Rattle.reach.proofs.MarkBits.{with_live, bit_0}

module _ {width : ℕ} {names marks : List ℕ} {cap : ℕ} {x : Id} (second : Bool) (t : Table width false names marks cap) where
  -- the slot had the id
  raised : (k : ℕ) → Holds width false names marks cap x k → has_bit second (get_or marks k 0) ≡ false → Gained width second names marks names (set marks k (with_bit second (get_or marks k 0))) cap x k
  raised k h e =
      let l : live false (with_bit second (get_or marks k 0)) ≡ true = with_live second (get_or marks k 0) in
      record {
        lacked = ap (has_bit second) (mark-held t k h) ∙ e;
        table = remark t h (with_bit second (get_or marks k 0)) l;
        holds = remark-holds t.sized h (with_bit second (get_or marks k 0)) l h;
        this = remark-this t h (with_bit second (get_or marks k 0)) l ∙ ap (with_bit second) (sym (mark-held t k h));
        other = λ y n. remark-other t h (with_bit second (get_or marks k 0)) l y n;
        stays = λ y j g. remark-holds t.sized h (with_bit second (get_or marks k 0)) l g;
      }

  -- the slot was free
  entered : {names' marks' : List ℕ} {r : Slot} → Inserts width false names marks names' marks' cap x (with_bit second 0) r → (k : ℕ) → r ≡ Vacant k → Gained width second names marks names' marks' cap x k
  entered i k e =
      let l : live false (with_bit second 0) ≡ true = with_live second 0 in
      let z : mark_for width false names marks cap x ≡ 0 = vacant-mark t i.finds k e in
      record {
        lacked = ap (has_bit second) z ∙ bit_0 second;
        table = i.right t l;
        holds = new-holds t l i k e;
        this = new-mark t l i k e ∙ ap (with_bit second) (sym z);
        other = λ y n. other-mark t l i k e y n;
        stays = λ y j h. (old-holds t l i k e j h).0;
      }

-- ---- the three answers of the table

module _ {width : ℕ} {names marks names₁ marks₁ : List ℕ} {cap : ℕ} {x : Id} (second : Bool) (first : ℕ) {s : Slot} (z : first ≡ with_bit second 0) (i : Inserts width false names marks names₁ marks₁ cap x first s) where
  inserts : Inserts width false names marks names₁ marks₁ cap x (with_bit second 0) s
  inserts = subst (λ (n : ℕ). Inserts width false names marks names₁ marks₁ cap x n s) z i

  pub as-found : {marks' : List ℕ} {r : Marking} (k : ℕ) → s ≡ Found k → Raises second marks₁ marks' k r → MarksId width second names marks names₁ marks' cap x r
  as-found {marks'} {r} k e o = record {
    right = λ t c.
        let h : Holds width false names marks cap x k = i.finds.hit k e in
        let n : names₁ ≡ names = (i.found k e).0 in
        let m : marks₁ ≡ marks = (i.found k e).1 in
        by_cases (has_bit second (get_or marks k 0))
        (λ b.
        let a = o.known (ap (λ (l : List ℕ). has_bit second (get_or l k 0)) m ∙ b) in
        subst (λ (q : Marking). ToldMark width second names marks names₁ marks' cap x q) (sym a.0) (ap (has_bit second) (mark-held t k h) ∙ b, n, a.1 ∙ m))
        (λ b.
        let a = o.given (ap (λ (l : List ℕ). has_bit second (get_or l k 0)) m ∙ b) in
        let q : marks' ≡ set marks k (with_bit second (get_or marks k 0)) = a.1 ∙ ap (λ (l : List ℕ). set l k (with_bit second (get_or l k 0))) m in
        subst (λ (q : Marking). ToldMark width second names marks names₁ marks' cap x q) (sym (a.0 (omega (arith, h.low))))
        (subst (λ (l : List ℕ). Gained width second names marks l marks' cap x k) (sym n) (subst (λ (l : List ℕ). Gained width second names marks names l cap x k) (sym q) (raised second t k h b))));
  }

  pub as-vacant : {r : Marking} (k : ℕ) → s ≡ Vacant k → (k < most_slots → r ≡ fresh_at k) → MarksId width second names marks names₁ marks₁ cap x r
  as-vacant {r} k e f = record {
    right = λ t c. subst (λ (q : Marking). ToldMark width second names marks names₁ marks₁ cap x q) (sym (f (omega (arith, (i.finds.free k e).low)))) (entered second t inserts k e);
  }

  pub as-full : s ≡ TableFull → MarksId width second names marks names₁ marks₁ cap x Full
  as-full e = record { right = λ t c. subst (λ (a : Slot). Finds width false names marks cap x a) e i.finds }

-- ---- a slot

module _ (second : Bool) (marks : List ℕ) (slot : ℕ) {m : ℕ} {b : Bool} (e : m ≡ get_or marks slot 0) (f : b ≡ has_bit second m) where
  pub raise-known : b ≡ true → Raises second marks marks slot Known
  raise-known t = record { known = λ h. (refl, refl); given = λ h. clash (sym (f ∙ ap (has_bit second) e) ∙ t) h }

  pub raise-given : {n : ℕ} {marks' : List ℕ} {r : Marking} → b ≡ false → n ≡ with_bit second m → marks' ≡ set marks slot n → (slot < most_slots → r ≡ fresh_at slot) → Raises second marks marks' slot r
  raise-given t a q o = record {
    known = λ h. clash h (sym (f ∙ ap (has_bit second) e) ∙ t);
    given = λ h. (o, q ∙ ap (set marks slot) (a ∙ ap (with_bit second) e));
  }
