-- Cells of different entries, benches or moves stand apart, so that what is noted alters no other cell, and what is recalled is what was told.
-- Assumes nothing.
use mathlib.Core.Path.{◌≡◌, refl, sym, ◌∙◌, ap, subst}
use mathlib.Core.Logic.{◌⊎◌, inl, inr, ⊎_elim}
use Prim.Native.Nat.{ℕ, ◌+◌, ◌*◌, ◌/◌, ◌<◌, ◌≤◌}
use mathlib.Core.Bool.{Bool, true, false, cond}
use mathlib.Core.List.{List}
use native.Mathlib.Omega.{arith}
use lib.ListN.{length, get_or, set, length-set, get_or-eq_default}
use lib.Seq.{get_or-set_same, get_or-set_other}
use lib.Dec.{ltb, eqb}
use borrow.Author.Tests.{ltb-true, ltb-false, lt-ltb, le-ltb, eqb-true, eqb-false}
use Rattle.hash.proofs.Tests.{by_cases, clash, guard_test, guarded}
use Rattle.memo.specs.Cells.{side_cells, row_cells, cell_at, code_of, has_cell, recalled, noted, AllZero, Holds}

same? : (k i : ℕ) → (k ≡ i) ⊎ (k ≡ i → ⊥)
same? k i = by_cases (eqb k i) (λ e. inl (eqb-true k i e)) (λ e. inr (eqb-false k i e))

-- ---- where cells stand

pub same-entry : (k j : ℕ) (a b : Bool) (d e : ℕ) → d < side_cells → e < side_cells → cell_at k a d ≡ cell_at j b e → k ≡ j
same-entry k j true true d e p q h = omega arith
same-entry k j true false d e p q h = omega arith
same-entry k j false true d e p q h = omega arith
same-entry k j false false d e p q h = omega arith

pub same_side : (k j : ℕ) (a b : Bool) (d e : ℕ) → d < side_cells → e < side_cells → cell_at k a d ≡ cell_at j b e → a ≡ b
same_side k j true true d e p q h = refl
same_side k j true false d e p q h = absurd (omega (arith, same-entry k j true false d e p q h))
same_side k j false true d e p q h = absurd (omega (arith, same-entry k j false true d e p q h))
same_side k j false false d e p q h = refl

pub same-moves : (k j : ℕ) (a b : Bool) (d e : ℕ) → d < side_cells → e < side_cells → cell_at k a d ≡ cell_at j b e → d ≡ e
same-moves k j true true d e p q h = omega (arith, same-entry k j true true d e p q h)
same-moves k j true false d e p q h = absurd (omega (arith, same-entry k j true false d e p q h))
same-moves k j false true d e p q h = absurd (omega (arith, same-entry k j false true d e p q h))
same-moves k j false false d e p q h = omega (arith, same-entry k j false false d e p q h)

-- ---- which cells there are

pub record Cell (len n k d : ℕ) : Type 0 where
  pub entry : k < n
  pub row : k < len / row_cells
  pub moves : d < side_cells

pub cell_of : (len n k d : ℕ) → has_cell len n k d ≡ true → Cell len n k d
unfolding has_cell
cell_of len n k d h =
    let r = cond (ltb k (len / row_cells)) (ltb d side_cells) false in
    let g = guarded (ltb k n) r h in
    record {
      entry = ltb-true k n (guard_test (ltb k n) r h);
      row = ltb-true k (len / row_cells) (guard_test (ltb k (len / row_cells)) (ltb d side_cells) g);
      moves = ltb-true d side_cells (guarded (ltb k (len / row_cells)) (ltb d side_cells) g);
    }

-- a cell stands in the memo
pub cell-within : (len k : ℕ) (bed : Bool) (d : ℕ) → k < len / row_cells → d < side_cells → cell_at k bed d < len
cell-within len k true d h m = omega arith
cell-within len k false d h m = omega arith

-- ---- what is recalled

module _ {told : ℕ → Bool → ℕ → Bool} {n : ℕ} {m : List ℕ} (h : Holds told n m) (k : ℕ) (bed : Bool) (d : ℕ) where
  -- something is known: it is what is told of entry k
  pub recall-known : (recalled m n k bed d ≡ 0 → ⊥) → (k < n) × (recalled m n k bed d ≡ code_of (told k bed d))
  unfolding recalled
  recall-known z =
      by_cases (has_cell (length m) n k d)
      (λ e. let c = cell_of (length m) n k d e in
      let r : recalled m n k bed d ≡ get_or m (cell_at k bed d) 0 = ap (λ (t : Bool). cond t (get_or m (cell_at k bed d) 0) 0) e in
      (c.entry, ⊎_elim (λ y. absurd (z (r ∙ y))) (λ y. r ∙ y) (h.cell k bed d c.entry c.moves)))
      (λ e. absurd (z (ap (λ (t : Bool). cond t (get_or m (cell_at k bed d) 0) 0) e)))

pub code_test : (b : Bool) → eqb (code_of b) 2 ≡ b
code_test true = refl
code_test false = refl

-- ---- what is noted

pub length_noted : (m : List ℕ) (n k : ℕ) (bed : Bool) (d : ℕ) (so : Bool) → length (noted m n k bed d so) ≡ length m
unfolding noted
length_noted m n k bed d so =
    by_cases (has_cell (length m) n k d)
    (λ e. ap (λ (t : Bool). length (cond t (set m (cell_at k bed d) (code_of so)) m)) e ∙ length-set m (cell_at k bed d) (code_of so))
    (λ e. ap (λ (t : Bool). length (cond t (set m (cell_at k bed d) (code_of so)) m)) e)

module _ {told : ℕ → Bool → ℕ → Bool} {n : ℕ} {m : List ℕ} (h : Holds told n m) (k : ℕ) (bed : Bool) (d : ℕ) (so : Bool) where
  set_holds : Cell (length m) n k d → told k bed d ≡ so → Holds told n (set m (cell_at k bed d) (code_of so))
  set_holds c e = record { cell = λ j b f p q. ⊎_elim (here j b f p q) (away j b f p q) (same? (cell_at j b f) (cell_at k bed d)) }
    where
      m' : List ℕ
      m' = set m (cell_at k bed d) (code_of so)

      is-told : (j : ℕ) (b : Bool) (f : ℕ) → j ≡ k → b ≡ bed → f ≡ d → told j b f ≡ so
      is-told j b f x y z = ap (λ (i : ℕ). told i b f) x ∙ ap (λ (i : Bool). told k i f) y ∙ ap (λ (i : ℕ). told k bed i) z ∙ e

      here : (j : ℕ) (b : Bool) (f : ℕ) → j < n → f < side_cells → cell_at j b f ≡ cell_at k bed d → (get_or m' (cell_at j b f) 0 ≡ 0) ⊎ (get_or m' (cell_at j b f) 0 ≡ code_of (told j b f))
      here j b f p q s =
          inr (ap (λ (i : ℕ). get_or m' i 0) s
          ∙ get_or-set_same m (cell_at k bed d) (code_of so) 0 (cell-within (length m) k bed d c.row c.moves)
          ∙ ap code_of (sym (is-told j b f (same-entry j k b bed f d q c.moves s) (same_side j k b bed f d q c.moves s) (same-moves j k b bed f d q c.moves s))))

      away : (j : ℕ) (b : Bool) (f : ℕ) → j < n → f < side_cells → (cell_at j b f ≡ cell_at k bed d → ⊥) → (get_or m' (cell_at j b f) 0 ≡ 0) ⊎ (get_or m' (cell_at j b f) 0 ≡ code_of (told j b f))
      away j b f p q s =
          let o : get_or m' (cell_at j b f) 0 ≡ get_or m (cell_at j b f) 0 = get_or-set_other m (cell_at k bed d) (cell_at j b f) (code_of so) 0 s in
          ⊎_elim (λ y. inl (o ∙ y)) (λ y. inr (o ∙ y)) (h.cell j b f p q)

  pub note-holds : (k < n → told k bed d ≡ so) → Holds told n (noted m n k bed d so)
  unfolding noted
  note-holds e =
      by_cases (has_cell (length m) n k d)
      (λ t. let c = cell_of (length m) n k d t in
      subst (λ (b : Bool). Holds told n (cond b (set m (cell_at k bed d) (code_of so)) m)) (sym t) (set_holds c (e c.entry)))
      (λ t. subst (λ (b : Bool). Holds told n (cond b (set m (cell_at k bed d) (code_of so)) m)) (sym t) h)

-- ---- nothing is known at first

pub zero-holds : (told : ℕ → Bool → ℕ → Bool) (n : ℕ) {m : List ℕ} → AllZero m → Holds told n m
zero-holds told n z = record { cell = λ k bed d p q. inl (z.zero-at (cell_at k bed d)) }

-- ---- the tests of a cell

pub no-entry : (len n k d : ℕ) → n ≤ k → false ≡ has_cell len n k d
unfolding has_cell
no-entry len n k d h = rw (le-ltb k n h)

pub no_row : (len n k d : ℕ) → k < n → len / row_cells ≤ k → false ≡ has_cell len n k d
unfolding has_cell
no_row len n k d h r = rw (lt-ltb k n h, le-ltb k (len / row_cells) r)

pub by-moves : (len n k d : ℕ) → k < n → k < len / row_cells → ltb d side_cells ≡ has_cell len n k d
unfolding has_cell
by-moves len n k d h r = rw (lt-ltb k n h, lt-ltb k (len / row_cells) r)

-- a cell is the row's first and the bench's own
pub cell-place : (k : ℕ) (bed : Bool) (d : ℕ) → k * row_cells + cell_at 0 bed d ≡ cell_at k bed d
cell-place k true d = omega arith
cell-place k false d = omega arith

-- ---- forgetting

-- the first i cells are 0
pub record ZeroTo (i : ℕ) (m : List ℕ) : Type 0 where
  pub zeros : (j : ℕ) → j < i → get_or m j 0 ≡ 0

pub zero-first : (m : List ℕ) → ZeroTo 0 m
zero-first m = record { zeros = λ j h. absurd (omega arith) }

pub zero-next : {m : List ℕ} (i : ℕ) → ZeroTo i m → i < length m → ZeroTo (i + 1) (set m i 0)
zero-next {m} i z h = record {
  zeros = λ j l. ⊎_elim (λ e. ap (λ (q : ℕ). get_or (set m i 0) q 0) e ∙ get_or-set_same m i 0 0 h) (λ e. get_or-set_other m i j 0 0 e ∙ z.zeros j (omega (arith, e))) (same? j i);
}

pub zero-all : {m : List ℕ} (i : ℕ) → ZeroTo i m → length m ≤ i → AllZero m
zero-all {m} i z h = record { zero-at = λ j. by_cases (ltb j (length m)) (λ e. z.zeros j (omega (arith, ltb-true j (length m) e))) (λ e. get_or-eq_default m 0 (ltb-false j (length m) e)) }

-- ---- a cell by its bench

pub side_bed : (bed : Bool) (d : ℕ) → d < side_cells → bed ≡ true → (side_cells + d ≡ cell_at 0 bed d) × (side_cells + d < row_cells)
side_bed true d h e = (omega arith, omega arith)
side_bed false d h e = clash e refl

pub side_cone : (bed : Bool) (d : ℕ) → d < side_cells → bed ≡ false → (d ≡ cell_at 0 bed d) × (d < row_cells)
side_cone true d h e = clash refl e
side_cone false d h e = (omega arith, omega arith)

-- ---- what the code reads and writes

pub recall_none : (m : List ℕ) (n k : ℕ) (bed : Bool) (d : ℕ) → has_cell (length m) n k d ≡ false → 0 ≡ recalled m n k bed d
unfolding recalled
recall_none m n k bed d e = rw e

pub recall_cell : (m : List ℕ) (n k : ℕ) (bed : Bool) (d i : ℕ) → has_cell (length m) n k d ≡ true → i ≡ cell_at 0 bed d → get_or m (k * row_cells + i) 0 ≡ recalled m n k bed d
unfolding recalled
recall_cell m n k bed d i e f = ap (λ (j : ℕ). get_or m (k * row_cells + j) 0) f ∙ ap (λ (j : ℕ). get_or m j 0) (cell-place k bed d) ∙ sym (ap (λ (t : Bool). cond t (get_or m (cell_at k bed d) 0) 0) e)

pub note_none : (m : List ℕ) (n k : ℕ) (bed : Bool) (d : ℕ) (so : Bool) → has_cell (length m) n k d ≡ false → m ≡ noted m n k bed d so
unfolding noted
note_none m n k bed d so e = sym (ap (λ (t : Bool). cond t (set m (cell_at k bed d) (code_of so)) m) e)

pub note_cell : (m : List ℕ) (n k : ℕ) (bed : Bool) (d : ℕ) (so : Bool) (i v : ℕ) → has_cell (length m) n k d ≡ true → i ≡ cell_at 0 bed d → v ≡ code_of so
    → set m (k * row_cells + i) v ≡ noted m n k bed d so
unfolding noted
note_cell m n k bed d so i v e f g =
    ap (λ (j : ℕ). set m (k * row_cells + j) v) f ∙ ap (λ (j : ℕ). set m j v) (cell-place k bed d) ∙ ap (set m (cell_at k bed d)) g
    ∙ sym (ap (λ (t : Bool). cond t (set m (cell_at k bed d) (code_of so)) m) e)

-- a row and a cell of it lie within the memo
pub row_within : (len n k d i : ℕ) → has_cell len n k d ≡ true → i < row_cells → k * row_cells + i < len
row_within len n k d i e h = let c = (cell_of len n k d e).row in omega arith

pub row_starts : (len n k d : ℕ) → has_cell len n k d ≡ true → k * row_cells < len
row_starts len n k d e = let c = (cell_of len n k d e).row in omega arith

-- ---- a loop over parents: what was so of the first i and is so of the next

pub before_or_at : (i j : ℕ) → j < i + 1 → (j ≡ i) ⊎ (j < i)
before_or_at i j g = by_cases (ltb j i) (λ t. inr (ltb-true j i t)) (λ t. inl (omega (arith, ltb-false j i t)))
