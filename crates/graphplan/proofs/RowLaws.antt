-- Laws of the rows of a store: row k is that of entry k, and the entries of EDGE are counted row by row. Assumes nothing.
use mathlib.Core.Path.{◌≡◌, refl, sym, ◌∙◌, ap}
use mathlib.Core.Bool.{Bool, cond}
use mathlib.Core.List.{List, [], ◌∷◌}
use Prim.Native.Nat.{ℕ, zero, suc, ◌+◌, ◌*◌, ◌-◌, ◌≤◌, ◌<◌}
use native.Mathlib.Omega.{arith}
use lib.ListN.{length, get_or}
use lib.Dec.{ltb}
use borrow.Author.Tests.{lt-ltb}
use Rattle.hash.specs.Bytes.{Id}
use Rattle.hash.proofs.Tests.{by_cases}
use Rattle.odb.specs.Store.{standing_entries}
use Rattle.odb.specs.Lookup.{entry_body}
use Rattle.levels.specs.StoreGraph.{lines_in, entry_of}
use Rattle.levels.proofs.Lines.{lines_few}
use Rattle.graphfile.specs.GraphFile.{Row, row_at, edges_of, edges_in}
use Rattle.graphfile.proofs.Pieces.{edges_before}
use Rattle.graphfile.proofs.Parents.{length_marked}
use Rattle.graphbytes.proofs.Lists.{edges_before_next, edges_before_all, edges_before_none}
use Rattle.graphplan.specs.StoreRows.{numbers_of, row_of, rows_from, rows_of}
use Rattle.graphplan.specs.Entries.{edges_count, edges_up_to}

pub length_rows_from : (w : ℕ) (b : List ℕ) (k m : ℕ) → length (rows_from w b k m) ≡ m
unfolding rows_from
length_rows_from w b k zero = refl
length_rows_from w b k (suc m) = ap suc (length_rows_from w b (suc k) m)

row_from : (w : ℕ) (b : List ℕ) (k m i : ℕ) → i < m → row_at (rows_from w b k m) i ≡ row_of w b (k + i)
unfolding rows_from row_at
row_from w b k zero i h = absurd (omega arith)
row_from w b k (suc m) zero h = ap (row_of w b) (let z : k ≡ k + 0 = omega arith in z)
row_from w b k (suc m) (suc i) h = row_from w b (suc k) m i (omega arith) ∙ ap (row_of w b) (let z : suc k + i ≡ k + suc i = omega arith in z)

pub length_rows : (w : ℕ) (b : List ℕ) → length (rows_of w b) ≡ standing_entries w b
unfolding rows_of
length_rows w b = length_rows_from w b 0 (standing_entries w b)

pub row-at : (w : ℕ) (b : List ℕ) (k : ℕ) → k < standing_entries w b → row_at (rows_of w b) k ≡ row_of w b k
unfolding rows_of
row-at w b k h = row_from w b 0 (standing_entries w b) k h ∙ ap (row_of w b) (let z : 0 + k ≡ k = omega arith in z)

-- ---- parents by number

pub length_numbers : (w : ℕ) (b : List ℕ) (xs : List Id) → length (numbers_of w b xs) ≡ length xs
unfolding numbers_of
length_numbers w b [] = refl
length_numbers w b (x ∷ xs) = ap suc (length_numbers w b xs)

pub number_at : (w : ℕ) (b : List ℕ) (xs : List Id) (j : ℕ) → j < length xs → get_or (numbers_of w b xs) j 0 ≡ entry_of w b (standing_entries w b) (get_or xs j [])
unfolding numbers_of
number_at w b [] j h = absurd (omega arith)
number_at w b (x ∷ xs) zero h = refl
number_at w b (x ∷ xs) (suc j) h = number_at w b xs j (omega arith)

-- ---- the entries of EDGE

pub edges-count : (ps : List ℕ) → length (edges_of ps) ≡ edges_count (length ps)
unfolding edges_of
edges-count [] = refl
edges-count (a ∷ []) = refl
edges-count (a ∷ (b ∷ [])) = refl
edges-count (a ∷ (b ∷ (c ∷ ps))) =
    length_marked (b ∷ (c ∷ ps))
    ∙ (let z : suc (suc (length ps)) ≡ suc (suc (suc (length ps))) - 1 = omega arith in z)
    ∙ sym (ap (λ (t : Bool). cond t (suc (suc (suc (length ps))) - 1) 0) (lt-ltb 2 (suc (suc (suc (length ps)))) (omega arith)))

-- the entries of EDGE of entry k
pub entry-edges : (w : ℕ) (b : List ℕ) (k : ℕ) → length (edges_of (row_of w b k).parents) ≡ edges_count (length (lines_in w (entry_body w b k)).ids)
unfolding row_of
entry-edges w b k = edges-count (numbers_of w b (lines_in w (entry_body w b k)).ids) ∙ ap edges_count (length_numbers w b (lines_in w (entry_body w b k)).ids)

pub edges-up_to : (w : ℕ) (b : List ℕ) (k : ℕ) → k ≤ standing_entries w b → edges_up_to w b k ≡ edges_before (rows_of w b) k
unfolding edges_up_to
edges-up_to w b zero h = sym (edges_before_none (rows_of w b))
edges-up_to w b (suc k) h =
    let i : edges_up_to w b k ≡ edges_before (rows_of w b) k = edges-up_to w b k (omega arith) in
    let r : row_at (rows_of w b) k ≡ row_of w b k = row-at w b k (omega arith) in
    let c : length (edges_of (row_at (rows_of w b) k).parents) ≡ edges_count (length (lines_in w (entry_body w b k)).ids) = ap (λ (q : Row). length (edges_of q.parents)) r ∙ entry-edges w b k in
    let n : edges_before (rows_of w b) (suc k) ≡ edges_before (rows_of w b) k + length (edges_of (row_at (rows_of w b) k).parents) = edges_before_next (rows_of w b) k (omega (arith, length_rows w b)) in
    ap (λ (x : ℕ). x + edges_count (length (lines_in w (entry_body w b k)).ids)) i ∙ ap (λ (x : ℕ). edges_before (rows_of w b) k + x) (sym c) ∙ sym n

pub edges-all : (w : ℕ) (b : List ℕ) → edges_up_to w b (standing_entries w b) ≡ length (edges_in (rows_of w b))
edges-all w b = edges-up_to w b (standing_entries w b) (omega arith) ∙ ap (edges_before (rows_of w b)) (sym (length_rows w b)) ∙ edges_before_all (rows_of w b)

pub count-few : (c : ℕ) → c ≤ 256 → edges_count c ≤ 255
count-few c h = by_cases (ltb 2 c) (λ e. rw e (omega arith)) (λ e. rw e (omega arith))

pub edges_few : (w : ℕ) (b : List ℕ) (k : ℕ) → edges_up_to w b k ≤ 255 * k
unfolding edges_up_to
edges_few w b zero = omega arith
edges_few w b (suc k) = omega (arith, edges_few w b k, count-few (length (lines_in w (entry_body w b k)).ids) (lines_few w (entry_body w b k)))
