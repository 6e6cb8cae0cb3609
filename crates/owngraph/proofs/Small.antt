-- The file of a store is at most 16,777,216 bytes: of its 2w + 16 bytes for a commit and 4 for an entry of EDGE the store has 3w + 10 and 2w + 8, and it has
-- no more than that itself. Assumes nothing.
use Rattle.std.specs.Prelude.{None}
use mathlib.Core.Path.{◌≡◌, ap}
use mathlib.Core.List.{List}
use Prim.Native.Nat.{ℕ, zero, suc, ◌+◌, ◌*◌, ◌-◌, ◌≤◌, ◌<◌}
use native.Mathlib.Omega.{arith}
use native.Mathlib.Nat.{mul-le-mul_right, mul-zero}
use lib.ListN.{length}
use lib.Dec.{ltb}
use Rattle.hash.specs.Bytes.{Id, width_of}
use Rattle.hash.specs.declared.Kind.{Kind}
use Rattle.hash.proofs.Tests.{by_cases}
use Rattle.hash.proofs.Widths.{width_least, width-most, in_all}
use Rattle.object.specs.Header.{tree_size, parent_size}
use Rattle.object.proofs.Headers.{header_lines}
use Rattle.odb.specs.Store.{entries, entry_size, body_start, body_end, standing_entries}
use Rattle.odb.specs.Lookup.{entry_body}
use Rattle.odb.proofs.Store.{good, good-count, good-size}
use Rattle.odb.proofs.Bodies.{next_start, start-end, body-length}
use Rattle.odb.proofs.Nth.{good-body}
use Rattle.levels.specs.StoreGraph.{lines_in}
use Rattle.graphfile.specs.GraphFile.{edges_in}
use Rattle.graphplan.specs.StoreRows.{Writable, rows_of}
use Rattle.graphplan.specs.Entries.{edges_count, edges_up_to}
use Rattle.graphplan.specs.Refusing.{refusal_for}
use Rattle.graphwrite.specs.Writing.{file_of, length_of}
use Rattle.graphplan.proofs.RowLaws.{edges-all}
use Rattle.graphplan.proofs.Wides.{readable-at}
use Rattle.graphwrite.proofs.Laid.{front_least, length_is}
use Rattle.graphplan.proofs.Planning.{accepted}
use Rattle.graphtold.proofs.Unfit.{readable-body}
use Rattle.graphtold.proofs.There.{file-long}

count_most : (c : ℕ) → edges_count c ≤ c
count_most c = by_cases (ltb 2 c) (λ e. rw e (omega arith)) (λ e. rw e (omega arith))

-- beside 1,124 bytes of its own, a file is at most four fifths of its store
four_fifths : (n e wn we : ℕ) {s f : ℕ} → 20 * n ≤ wn → (3 * wn + 10 * n) + (2 * we + 8 * e) ≤ s → s ≤ 16777216 → f ≤ 1124 + (2 * wn + 16 * n) + 4 * e → f ≤ 16777216
four_fifths n e wn we a b c d = omega (arith, a, b, c, d)

module _ (w : ℕ) (least : 20 ≤ w) (most : w ≤ 32) (b : List ℕ) (W : Writable w b (standing_entries w b)) where
  abbrev n : ℕ
  n = standing_entries w b

  in_store_lem : (k : ℕ) → k < n → k < entries b
  in_store_lem k h = omega (arith, good-count w b W.ok)

  abbrev lines : ℕ → ℕ
  lines k = length (lines_in w (entry_body w b k)).ids

  -- a body has a tree line and its parent lines
  body-holds : (k : ℕ) → k < n → tree_size w + parent_size w * lines k ≤ body_end w b k - body_start w b k
  body-holds k h =
      let r = (readable-body w (entry_body w b k) (readable-at w b n W k h)).2 in
      let l = (header_lines w (entry_body w b k) r.tree).long in
      omega (arith, l, ap (λ (xs : List Id). parent_size w * length xs) r.ids, ap length (good-body w b k W.ok (in_store_lem k h)), body-length w b W.ok k (in_store_lem k h))

  bodies-hold : (k : ℕ) → k ≤ n → tree_size w * k + parent_size w * edges_up_to w b k ≤ body_start w b k
  unfolding edges_up_to
  bodies-hold zero h = omega (arith, mul-zero (tree_size w), mul-zero (parent_size w))
  bodies-hold (suc k) h =
      let l : k < n = omega arith in
      omega (arith, bodies-hold k (omega arith), body-holds k l, next_start w b k, start-end w b W.ok k (in_store_lem k l), in_all (parent_size w) (count_most (lines k)))

  -- what the store has, in its commits and in the entries of EDGE that their parents take
  store-holds : (3 * (w * n) + 10 * n) + (2 * (w * edges_up_to w b n) + 8 * edges_up_to w b n) ≤ length b
  store-holds =
      let c = good-count w b W.ok in
      omega (arith, bodies-hold n (omega arith), ap (body_start w b) c, (good w b W.ok).last, good-size w b W.ok, ap (λ (k : ℕ). entry_size w * k) c)

  -- what the file has, in the same
  file-holds : length_of w b ≤ 1124 + (2 * (w * n) + 16 * n) + 4 * edges_up_to w b n
  unfolding length_of
  file-holds = let e = length (edges_in (rows_of w b)) in omega (arith, edges-all w b, length_is w n e, (front_least e).1, most)

  length-small : length_of w b ≤ 16777216
  length-small = four_fifths n (edges_up_to w b n) (w * n) (w * edges_up_to w b n) (mul-le-mul_right n least) store-holds W.small file-holds

pub file-small : (kind : Kind) (b : List ℕ) (lent : ℕ) → refusal_for (width_of kind) b lent ≡ None → length (file_of kind b) ≤ 16777216
file-small kind b lent e = omega (arith, file-long kind b lent e, length-small (width_of kind) (width_least kind) (width-most kind) b (accepted (width_of kind) b lent e))
