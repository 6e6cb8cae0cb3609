-- Giving marks to an id: where it stands in a slot, the slot gets another live mark; where it is new, the table gains one slot. Either
-- way the mark of one id changes and no other. Assumes nothing.
use mathlib.Core.Path.{◌≡◌, refl, sym, ◌∙◌, ap, subst}
use mathlib.Core.Logic.{⊎_elim}
use Prim.Native.Nat.{ℕ, ◌*◌, ◌<◌}
use mathlib.Core.Bool.{Bool, true, false}
use mathlib.Core.List.{List}
use native.Mathlib.Omega.{arith}
use lib.Dec.{eqb}
use lib.ListN.{get_or, set}
use lib.Seq.{get_or-set_other}
use borrow.Author.Tests.{eqb-true, not-false}
use Rattle.hash.specs.Bytes.{Id, set_down}
use Rattle.hash.proofs.Tests.{clash}
use Rattle.hashtable.specs.Marks.{live}
use Rattle.hashtable.specs.Table.{live_at, Holds, Table, mark_for, Finds, Inserts}
use Rattle.hashtable.specs.declared.table.Slot.{Slot}
use Rattle.hashtable.specs.declared.table.Slot.TheVariants.{Found, Vacant, Full as TableFull}
use Rattle.hashtable.proofs.TableIds.{same?}
use Rattle.hashtable.proofs.TableInsert.{as-vacant as put_in}
use Rattle.hashtable.proofs.TableKept.{remark, remark-holds}
use Rattle.hashtable.proofs.TableView.{mark-held, remark-this, remark-other, vacant-mark, new-holds, new-mark, other-mark}
use Rattle.frontier.specs.Bits.{is_painted, with_bits}
use Rattle.frontier.specs.Slots.{most_slots, Gained, added_at, ToldAdded, AddsMark}
use Rattle.frontier.specs.declared.slots.Added.{Added}
use Rattle.frontier.specs.declared.slots.Added.TheVariants.{Full}
use Rattle.frontier.proofs.PaintBits.{painted-live, painted-with_bits, painted_0}

-- a mark that is not live is 0, before painting ends
dead_0 : (m : ℕ) → live false m ≡ false → m ≡ 0
unfolding live
dead_0 m e = eqb-true m 0 (not-false (eqb m 0) e)

module _ {width : ℕ} {names marks : List ℕ} {cap : ℕ} {x : Id} (bits : ℕ) (t : Table width false names marks cap) (b : is_painted bits ≡ true) where
  -- the slot had the id
  raised : (k : ℕ) → Holds width false names marks cap x k → Gained width names marks names (set marks k (with_bits bits (get_or marks k 0))) cap x bits k
  raised k h =
      let m : ℕ = with_bits bits (get_or marks k 0) in
      let l : live false (with_bits bits (get_or marks k 0)) ≡ true = painted-live (with_bits bits (get_or marks k 0)) (painted-with_bits bits (get_or marks k 0) b) in
      record {
        table = remark t h (with_bits bits (get_or marks k 0)) l;
        holds = remark-holds t.sized h (with_bits bits (get_or marks k 0)) l h;
        was = sym (mark-held t k h);
        this = remark-this t h (with_bits bits (get_or marks k 0)) l ∙ ap (with_bits bits) (sym (mark-held t k h));
        other = λ y n. remark-other t h (with_bits bits (get_or marks k 0)) l y n;
        apart = λ s n. get_or-set_other marks k s (with_bits bits (get_or marks k 0)) 0 n;
        taken = λ s l' a. refl;
      }

  -- the slot was free
  entered : {names' marks' : List ℕ} {r : Slot} → Inserts width false names marks names' marks' cap x (with_bits bits 0) r → (k : ℕ) → r ≡ Vacant k → Gained width names marks names' marks' cap x bits k
  entered i k e =
      let l : live false (with_bits bits 0) ≡ true = painted-live (with_bits bits 0) (painted-with_bits bits 0 b) in
      let z : mark_for width false names marks cap x ≡ 0 = vacant-mark t i.finds k e in
      let f = i.finds.free k e in
      record {
        table = i.right t l;
        holds = new-holds t l i k e;
        was = dead_0 (get_or marks k 0) f.dead ∙ sym z;
        this = new-mark t l i k e ∙ ap (with_bits bits) (sym z);
        other = λ y n. other-mark t l i k e y n;
        apart = λ s n. (i.old k e s n).1;
        taken = λ s l' a. ⊎_elim (λ q. clash (ap (live_at false marks) (sym q) ∙ a) f.dead) (λ n. (i.old k e s n).0) (same? s k);
      }

  free_new : {names' marks' : List ℕ} {r : Slot} → Inserts width false names marks names' marks' cap x (with_bits bits 0) r → (k : ℕ) → r ≡ Vacant k → is_painted (get_or marks k 0) ≡ false
  free_new i k e = ap is_painted (dead_0 (get_or marks k 0) (i.finds.free k e).dead) ∙ painted_0

-- by whether the slot was known to painting
told_as : {width : ℕ} {names marks names' marks' : List ℕ} {cap : ℕ} {x : Id} {bits : ℕ} (known : Bool) (k : ℕ) → Gained width names marks names' marks' cap x bits k → is_painted (get_or marks k 0) ≡ known
    → ToldAdded width names marks names' marks' cap x bits (added_at known k)
told_as {width} true k g e = (g, e)
told_as {width} false k g e = (g, e)

-- ---- the three answers of a search

module _ {width : ℕ} {names marks : List ℕ} {cap : ℕ} {x : Id} {s : Slot} (bits : ℕ) (f : Finds width false names marks cap x s) where
  pub as-found : {marks' : List ℕ} {known : Bool} {r : Added} (k : ℕ) → s ≡ Found k → known ≡ is_painted (get_or marks k 0) → marks' ≡ set marks k (with_bits bits (get_or marks k 0))
      → (k < most_slots → r ≡ added_at known k) → AddsMark width names marks names marks' cap x bits r
  as-found {marks'} {known} {r} k e p q a = record {
    right = λ t b c.
        let h : Holds width false names marks cap x k = f.hit k e in
        let g : Gained width names marks names marks' cap x bits k = subst (λ (l : List ℕ). Gained width names marks names l cap x bits k) (sym q) (raised bits t b k h) in
        subst (λ (d : Added). ToldAdded width names marks names marks' cap x bits d) (sym (a (omega (arith, h.low)))) (told_as known k g (sym p));
  }

  pub as-vacant : {names' marks' : List ℕ} {first : ℕ} {r : Added} (k : ℕ) → s ≡ Vacant k → names' ≡ set_down names (width * k) x → first ≡ with_bits bits 0 → marks' ≡ set marks k first
      → (k < most_slots → r ≡ added_at false k) → AddsMark width names marks names' marks' cap x bits r
  as-vacant {names'} {marks'} {first} {r} k e n z m a = record {
    right = λ t b c.
        let i : Inserts width false names marks names' marks' cap x (with_bits bits 0) (Vacant k) =
        subst (λ (l : List ℕ). Inserts width false names marks names' l cap x (with_bits bits 0) (Vacant k)) (sym (m ∙ ap (set marks k) z)) (put_in f (with_bits bits 0) e n) in
        subst (λ (d : Added). ToldAdded width names marks names' marks' cap x bits d) (sym (a (omega (arith, (f.free k e).low)))) (entered bits t b i k refl, free_new bits t b i k refl);
  }

  pub as-full : s ≡ TableFull → AddsMark width names marks names marks cap x bits Full
  as-full e = record { right = λ t b c. subst (λ (a : Slot). Finds width false names marks cap x a) e f }
