-- Parents by number: what is read of a parent line is its number in the row. Assumes nothing.
use Rattle.std.specs.Prelude.{None, Option, Some}
use mathlib.Core.Path.{◌≡◌, refl, sym, ◌∙◌, ap}
use mathlib.Core.Bool.{true}
use mathlib.Core.List.{List, []}
use Prim.Native.Nat.{ℕ, suc, ◌+◌, ◌≤◌, ◌<◌}
use native.Mathlib.Omega.{arith}
use native.Mathlib.Numerals.{add-one}
use lib.ListN.{length, get_or}
use Rattle.hash.specs.Bytes.{Id, if_some}
use Rattle.idlist.specs.IdList.{find_in}
use Rattle.idlist.proofs.Answer.{find-hit}
use Rattle.odb.specs.Store.{entry_ids, standing_entries}
use Rattle.odb.specs.Lookup.{entry_body, ids_rise}
use Rattle.levels.specs.StoreGraph.{lines_in, lines_count, entry_of, store_graph}
use Rattle.levels.proofs.Stored.{good-rises}
use Rattle.levels.proofs.Lines.{lines_few, count_none}
use Rattle.graphfile.specs.GraphFile.{Row, row_at, edges_of}
use Rattle.graphfile.proofs.Pieces.{edges_before}
use Rattle.graphplan.specs.StoreRows.{Writable, row_of, rows_of}
use Rattle.graphplan.proofs.RowLaws.{length_numbers, number_at, length_rows, row-at}
use Rattle.graphbytes.proofs.Lists.{edges_before_next}
use Rattle.graphplan.proofs.Wides.{head_at}

-- ---- one parent

pub entry-most : (w : ℕ) (b : List ℕ) (n : ℕ) (x : Id) → standing_entries w b ≤ n → entry_of w b n x ≤ n
unfolding entry_of
entry-most w b n x h = go (find_in (entry_ids w b) x (standing_entries w b)) refl
  where
    go : (o : Option ℕ) → find_in (entry_ids w b) x (standing_entries w b) ≡ o → if_some o n (λ k. k) ≤ n
    go None e = omega arith
    go (Some k) e = omega (arith, (find-hit (entry_ids w b) x (standing_entries w b) k e).0)

pub parents-count : (w : ℕ) (b : List ℕ) (k : ℕ) → length (row_of w b k).parents ≡ length (lines_in w (entry_body w b k)).ids
unfolding row_of
parents-count w b k = length_numbers w b (lines_in w (entry_body w b k)).ids

module _ (w : ℕ) (b : List ℕ) (n k : ℕ) (W : Writable w b n) (inside : k < n) where
  -- what is read of parent j is its number in the row
  pub number_read : (j r : ℕ) → j < length (row_of w b k).parents
      → (ids_rise w b ≡ true → j < 256 → j < lines_count w (entry_body w b k) → r ≡ (store_graph w b n).parent k j) → r ≡ get_or (row_of w b k).parents j 0
  unfolding row_of
  number_read j r h f =
      let ids = (lines_in w (entry_body w b k)).ids in
      let l : j < length ids = omega (arith, length_numbers w b ids) in
      let more = (head_at w b n W k inside).1.more in
      f (good-rises w b W.ok) (omega (arith, lines_few w (entry_body w b k))) (omega (arith, count_none w (entry_body w b k) more))
      ∙ ap (λ (m : ℕ). entry_of w b m (get_or ids j [])) W.many
      ∙ sym (number_at w b ids j l)

  pub number-low : (j : ℕ) → j < length (row_of w b k).parents → get_or (row_of w b k).parents j 0 ≤ n
  unfolding row_of
  number-low j h =
      let ids = (lines_in w (entry_body w b k)).ids in
      omega (arith, number_at w b ids j (omega (arith, length_numbers w b ids)), entry-most w b (standing_entries w b) (get_or ids j []) (omega arith), W.many)

-- ---- one entry more

pub edges_step : (w : ℕ) (b : List ℕ) (n k e d : ℕ) → Writable w b n → k < n → e ≡ edges_before (rows_of w b) k → d ≡ length (edges_of (row_of w b k).parents) → e + d ≡ edges_before (rows_of w b) (k + 1)
edges_step w b n k e d W h ee ed =
    let l : k < length (rows_of w b) = omega (arith, length_rows w b, W.many) in
    let r : length (edges_of (row_at (rows_of w b) k).parents) ≡ length (edges_of (row_of w b k).parents) = ap (λ (q : Row). length (edges_of q.parents)) (row-at w b k (omega (arith, W.many))) in
    let s : edges_before (rows_of w b) (k + 1) ≡ edges_before (rows_of w b) (suc k) = ap (edges_before (rows_of w b)) (add-one k) in
    omega (arith, edges_before_next (rows_of w b) k l)
