-- Laws of the rows' places: a place that is cut off at the end of the file reads as the place itself, and where the layout is the
-- file's own, its ids and rows are the file's. Assumes nothing.
use mathlib.Core.Path.{◌≡◌, sym, ◌∙◌, ap}
use Prim.Native.Nat.{ℕ, ◌+◌, ◌-◌, ◌*◌, ◌/◌, ◌≤◌, ◌<◌, min}
use mathlib.Core.Bool.{true}
use mathlib.Core.List.{List}
use native.Mathlib.Omega.{arith}
use native.Mathlib.Nat.{le-div_iff_mul-le, div-lt_iff_lt-mul, mul_comm, min-eq_left, min-eq_right, add-zero}
use borrow.Author.Tests.{leb-true, leb-false}
use lib.ListN.{length, length-drop}
use lib.Dec.{leb}
use Rattle.hash.specs.Bytes.{at, u32_at}
use Rattle.hash.proofs.Tests.{by_cases}
use Rattle.hash.proofs.Widths.{apart}
use Rattle.hash.proofs.Bytes.{at-past, at_rest, u32_at-past, u32_at-at, length_at}
use Rattle.idlist.specs.IdList.{id_of}
use Rattle.commitgraph.specs.declared.Layout.{Layout}
use Rattle.commitgraph.specs.Graph.{OIDL, CDAT, chunk_start, graph_count, graph_ok, graph_ids, graph_id, graph_row, generation, graph_seconds, graph_parents, layout_of, id_in, row_size, row_in, row_start, row_end, level_in, seconds_in, parents_in}
use Rattle.commitgraph.proofs.LayoutRight.{right}

-- the end of the file, and every place past it, read alike
pub at_cut : (g : List ℕ) (i n : ℕ) → at g (min i (length g)) n ≡ at g i n
at_cut g i n =
    by_cases (leb i (length g)) (λ h. ap (λ (k : ℕ). at g k n) (min-eq_left (leb-true _ _ h)))
    (λ h.
    let l : length g ≤ i = omega (arith, leb-false i (length g) h) in
    ap (λ (k : ℕ). at g k n) (min-eq_right l) ∙ (at-past g (length g) n (omega arith) ∙ sym (at-past g i n l)))

pub u32_at-cut : (g : List ℕ) (i : ℕ) → u32_at g (min i (length g)) ≡ u32_at g i
u32_at-cut g i =
    by_cases (leb i (length g)) (λ h. ap (u32_at g) (min-eq_left (leb-true _ _ h)))
    (λ h.
    let l : length g ≤ i = omega (arith, leb-false i (length g) h) in
    ap (u32_at g) (min-eq_right l) ∙ (u32_at-past g (length g) (omega arith) ∙ sym (u32_at-past g i l)))

-- a part that has all its bytes ends in the file
pub whole-at : (g : List ℕ) (i n : ℕ) → 0 < n → length (at g i n) ≡ n → i + n ≤ length g
whole-at g i n h e =
    by_cases (leb (i + n) (length g)) (λ t. leb-true _ _ t)
    (λ t.
    let m : length g ≤ i + n = omega (arith, leb-false (i + n) (length g) t) in
    let f : length g - i ≡ n = sym (ap length (at_rest g i n m) ∙ length-drop i g) ∙ e in
    omega arith)

-- the bytes from one place to another, both cut off at the end of the file
pub at-ends : (g : List ℕ) (i n : ℕ) → at g (min i (length g)) (min (i + n) (length g) - min i (length g)) ≡ at g i n
at-ends g i n =
    by_cases (leb (i + n) (length g))
    (λ h.
    let m : i + n ≤ length g = leb-true _ _ h in
    let e : min (i + n) (length g) - min i (length g) ≡ n = omega arith in
    ap (at g (min i (length g))) e ∙ at_cut g i n)
    (λ h.
    let m : length g < i + n = leb-false (i + n) (length g) h in
    at_rest g (min i (length g)) (min (i + n) (length g) - min i (length g)) (omega arith)
    ∙ (sym (at_rest g (min i (length g)) n (omega arith)) ∙ at_cut g i n))

-- a row's place is one of the file; and its end, from its start
module _ (w : ℕ) (g : List ℕ) (l : Layout) (p : ℕ) where
  pub start-inside : row_start w g l p ≤ length g
  unfolding row_start
  start-inside = omega arith

  pub end-past : {from n : ℕ} → from ≡ row_start w g l p → n ≡ row_size w → length g - from < n → length g ≡ row_end w g l p
  unfolding row_start row_end
  end-past e f h = omega arith

  pub end-inside : {from n : ℕ} → from ≡ row_start w g l p → n ≡ row_size w → n ≤ length g - from → from + n ≡ row_end w g l p
  unfolding row_start row_end
  end-inside e f h = omega arith

-- thing p of this width starts before the end, or not
pub starts : {len width p : ℕ} → 0 < width → p ≤ len / width → width * p ≤ len
starts {len} {width} {p} m h = let n : p * width ≤ len = (le-div_iff_mul-le m).0 h in rw (mul_comm width p) n

pub starts_not : {len width p : ℕ} → 0 < width → len / width < p → len < width * p
starts_not {len} {width} {p} m h = let n : len < p * width = (div-lt_iff_lt-mul m).0 h in rw (mul_comm width p) n

-- a number read from a row's four numbers is that number of the row
pub field : (w d : ℕ) (y : List ℕ) {n : ℕ} {x : List ℕ} → d + 4 ≤ 16 → n ≡ u32_at x d → x ≡ at y w 16 → n ≡ u32_at y (w + d)
field w d y h e f = e ∙ (ap (λ (s : List ℕ). u32_at s d) f ∙ u32_at-at y w 16 d h)

pub first_field : (w : ℕ) (y : List ℕ) {n : ℕ} {x : List ℕ} → n ≡ u32_at x 0 → x ≡ at y w 16 → n ≡ u32_at y w
first_field w y e f = field w 0 y (omega arith) e f ∙ ap (u32_at y) (add-zero w)

-- an entry of EDGE, read by way of the place where its list starts
pub edge_cut : (g : List ℕ) (e from i : ℕ) → min (min (e + 4 * from) (length g) + 4 * i) (length g) ≡ min (e + 4 * (from + i)) (length g)
edge_cut g e from i = omega arith

-- ---- what stands at position p, of the file's own layout

module _ (w : ℕ) (g : List ℕ) (l : Layout) (p : ℕ) (own : l ≡ layout_of w g) where
  pub id-own : id_in w g l p ≡ graph_id w g p
  unfolding id_in layout_of graph_id graph_ids id_of
  id-own = ap (λ (m : Layout). id_in w g m p) own

  pub row-own : row_in w g l p ≡ graph_row w g p
  unfolding graph_row
  row-own = ap (λ (m : Layout). row_in w g m p) own

  pub level-own : level_in w g l p ≡ generation w g p
  unfolding generation
  level-own = ap (λ (m : Layout). level_in w g m p) own

  pub seconds-own : seconds_in w g l p ≡ graph_seconds w g p
  unfolding graph_seconds
  seconds-own = ap (λ (m : Layout). seconds_in w g m p) own

  pub parents-own : parents_in w g l p ≡ graph_parents w g p
  unfolding graph_parents
  parents-own = ap (λ (m : Layout). parents_in w g m p) own

-- the ids and rows of a right file stand in it whole
module _ (w : ℕ) (g : List ℕ) (p : ℕ) (ok : graph_ok w g ≡ true) (h : p < graph_count g) where
  pub length_id : length (graph_id w g p) ≡ w
  unfolding graph_id graph_ids id_of
  length_id = length_at g (chunk_start g OIDL + w * p) w (omega (arith, (right w g ok).places.ids, apart w h))

  pub length_row : length (graph_row w g p) ≡ row_size w
  unfolding graph_row row_in layout_of
  length_row = length_at g (chunk_start g CDAT + row_size w * p) (row_size w) (omega (arith, (right w g ok).places.rows, apart (row_size w) h))
