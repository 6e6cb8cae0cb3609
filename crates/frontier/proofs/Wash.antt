-- Marks without painting's: a slot that is seen stays taken, with its id, and has no mark of painting's any more. Where every taken slot
-- is a seen one, the table holds the same ids as before. Assumes nothing.
use mathlib.Core.Path.{◌≡◌, refl, sym, ◌∙◌, ap}
use mathlib.Core.Logic.{⊎_elim}
use Prim.Native.Nat.{ℕ, zero, suc, ◌*◌, ◌/◌, ◌%◌, ◌≤◌, ◌<◌}
use mathlib.Core.Bool.{true, false}
use mathlib.Core.List.{List, [], ◌∷◌}
use native.Mathlib.Omega.{arith}
use lib.Dec.{eqb}
use lib.ListN.{length, get_or, set}
use borrow.Author.Tests.{ne_eqb}
use Rattle.hash.specs.Bytes.{Id}
use Rattle.hash.proofs.Tests.{clash}
use Rattle.hashtable.specs.Marks.{visible, hidden, stale, seen, live}
use Rattle.hashtable.specs.Table.{live_at, Table, mark_for}
use Rattle.hashtable.proofs.MarksBits.{seen-live, live-none, not_0_live}
use Rattle.hashtable.proofs.TableKept.{Keeps, table_kept, holds-was}
use Rattle.hashtable.proofs.TableView.{look, mark-held, mark-absent}
use Rattle.frontier.specs.Bits.{is_painted}
use Rattle.frontier.specs.Prepare.{washed}

-- ---- the list

pub length_washed : (n : ℕ) (l : List ℕ) → length (washed n l) ≡ length l
unfolding washed
length_washed zero l = refl
length_washed (suc n) [] = refl
length_washed (suc n) (m ∷ l) = ap suc (length_washed n l)

pub washed-low : (n : ℕ) (l : List ℕ) (k : ℕ) → k < n → get_or (washed n l) k 0 ≡ get_or l k 0 / 8 * 8
unfolding washed
washed-low zero l k h = absurd (omega arith)
washed-low (suc n) [] k h = refl
washed-low (suc n) (m ∷ l) zero h = refl
washed-low (suc n) (m ∷ l) (suc k) h = washed-low n l k (omega arith)

washed-high : (n : ℕ) (l : List ℕ) (k : ℕ) → n ≤ k → get_or (washed n l) k 0 ≡ get_or l k 0
unfolding washed
washed-high zero l k h = refl
washed-high (suc n) [] k h = refl
washed-high (suc n) (m ∷ l) zero h = absurd (omega arith)
washed-high (suc n) (m ∷ l) (suc k) h = washed-high n l k (omega arith)

-- one slot more
pub washed-more : (n : ℕ) (l : List ℕ) → n < length l → set (washed n l) n (get_or (washed n l) n 0 / 8 * 8) ≡ washed (suc n) l
unfolding washed
washed-more zero [] h = absurd (omega arith)
washed-more zero (m ∷ l) h = refl
washed-more (suc n) [] h = absurd (omega arith)
washed-more (suc n) (m ∷ l) h = ap (λ (s : List ℕ). m / 8 * 8 ∷ s) (washed-more n l (omega arith))

pub washed-all : (n k : ℕ) (l : List ℕ) → length l ≤ n → length l ≤ k → washed n l ≡ washed k l
unfolding washed
washed-all zero zero l h i = refl
washed-all zero (suc k) [] h i = refl
washed-all zero (suc k) (m ∷ l) h i = absurd (omega arith)
washed-all (suc n) zero [] h i = refl
washed-all (suc n) zero (m ∷ l) h i = absurd (omega arith)
washed-all (suc n) (suc k) [] h i = refl
washed-all (suc n) (suc k) (m ∷ l) h i = ap (λ (s : List ℕ). m / 8 * 8 ∷ s) (washed-all n k l (omega arith) (omega arith))

-- ---- a mark

pub high-painted : (m : ℕ) → is_painted (m / 8 * 8) ≡ false
unfolding is_painted visible hidden stale
high-painted m =
    let a : m / 8 * 8 % 2 ≡ 1 → ⊥ = λ e. omega arith in
    let b : m / 8 * 8 / 2 % 2 ≡ 1 → ⊥ = λ e. omega arith in
    let c : m / 8 * 8 / 4 % 2 ≡ 1 → ⊥ = λ e. omega arith in
    rw (ne_eqb (m / 8 * 8 % 2) 1 a, ne_eqb (m / 8 * 8 / 2 % 2) 1 b, ne_eqb (m / 8 * 8 / 4 % 2) 1 c)

pub high-seen : (m : ℕ) → seen (m / 8 * 8) ≡ seen m
unfolding seen
high-seen m = let e : m / 8 * 8 / 8 % 2 ≡ m / 8 % 2 = omega arith in ap (λ (k : ℕ). eqb k 1) e

pub high_zero : (m : ℕ) → m ≡ 0 → m / 8 * 8 ≡ 0
high_zero m e = omega arith

-- ---- the table

module _ {width : ℕ} {names marks : List ℕ} {cap : ℕ} (t : Table width false names marks cap) (only : (k : ℕ) → k < cap → live_at false marks k ≡ true → seen (get_or marks k 0) ≡ true) where
  wash-seen : (k : ℕ) → k < cap → seen (get_or (washed cap marks) k 0) ≡ seen (get_or marks k 0)
  wash-seen k l = ap seen (washed-low cap marks k l) ∙ high-seen (get_or marks k 0)

  stays : (k : ℕ) → k < cap → live_at false marks k ≡ true → live_at false (washed cap marks) k ≡ true
  stays k l a = seen-live (get_or (washed cap marks) k 0) (wash-seen k l ∙ only k l a)

  was : (k : ℕ) → k < cap → live_at false (washed cap marks) k ≡ true → live_at false marks k ≡ true
  was k l a = not_0_live (get_or marks k 0) (λ z. clash a (ap (live false) (washed-low cap marks k l ∙ high_zero (get_or marks k 0) z) ∙ live-none false))

  wash-keeps : Keeps width false names marks false names (washed cap marks) cap
  wash-keeps = record { used = stays; was = was; same = λ k l a. refl }

  pub wash-taken : (k : ℕ) → k < cap → live_at false marks k ≡ true → live_at false (washed cap marks) k ≡ true
  wash-taken = stays

  pub wash-table : Table width false names (washed cap marks) cap
  wash-table = table_kept (record { for_marks = rw (length_washed cap marks) t.sized.for_marks; for_names = t.sized.for_names }) wash-keeps t

  -- the mark of each id
  pub wash-mark : (x : Id) → mark_for width false names (washed cap marks) cap x ≡ mark_for width false names marks cap x / 8 * 8
  wash-mark x =
      ⊎_elim
      (λ u.
      let h = u.holds in
      mark-held wash-table u.slot (record { low = h.low; alive = stays u.slot h.low h.alive; is = h.is })
      ∙ washed-low cap marks u.slot h.low
      ∙ ap (λ (m : ℕ). m / 8 * 8) (sym u.mark))
      (λ u. mark-absent (λ k h. u.0 k (holds-was wash-keeps h)) ∙ sym (high_zero (mark_for width false names marks cap x) u.1))
      (look width false names marks cap x)
