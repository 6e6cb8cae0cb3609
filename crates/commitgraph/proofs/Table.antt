-- The table of chunks: joined tests, the first chunk with an id, offsets that never fall, and what a right table tells.
-- The first chunk with an id among n rows stays the first among more rows; offsets that never fall from row to row never fall over
-- several rows, so that every chunk ends where the next starts, before the last offset, 20 bytes before the end of the file.
-- Assumes nothing.
use Rattle.std.specs.Prelude.{None, Option, Some}
use mathlib.Core.Path.{◌≡◌, refl, sym, ap, ◌∙◌}
use mathlib.Core.Bool.{Bool, true, false, cond, ◌&&◌}
use mathlib.Core.List.{List, [], ◌∷◌}
use Prim.Native.Nat.{ℕ, zero, suc, ◌+◌, ◌-◌, ◌*◌, ◌≤◌, ◌<◌}
use native.Mathlib.Omega.{arith}
use native.Mathlib.Numerals.{add-one}
use lib.ListN.{length}
use lib.Dec.{eqb, ltb, leb}
use borrow.Author.Tests.{leb-true, eqb-true, eqb-false, le-leb, lt-ltb, le-ltb, eq-eqb, ne_eqb}
use Rattle.hash.specs.Bytes.{u32_at, if_some}
use Rattle.hash.proofs.Tests.{by_cases, clash, not_yes, and_first, and_second, guard_test, guarded}
use Rattle.commitgraph.specs.Graph.{chunk_count, chunk_id, chunk_offset, offsets_rise, chunks_of, chunk_in, chunk_start, chunk_size, OIDF, OIDL, CDAT, EDGE, table_ok, fan_at, graph_count}

-- ---- tests

pub all_four : (a b c d : Bool) → a && b && c && d ≡ true → (a ≡ true) × (b ≡ true) × (c ≡ true) × (d ≡ true)
all_four true true true d e = (refl, refl, refl, e)
all_four true true false d e = clash e refl
all_four true false c d e = clash e refl
all_four false b c d e = clash e refl

-- a test of a number and the same test of both sides plus a third
pub eqb_past : (n a b : ℕ) → n ≤ b → eqb a (b - n) ≡ eqb (a + n) b
eqb_past n a b h =
    by_cases (eqb a (b - n)) (λ e. let z : a ≡ b - n = eqb-true a (b - n) e in e ∙ sym (eq-eqb (a + n) b (omega arith)))
    (λ e. e ∙ sym (ne_eqb (a + n) b (λ q. eqb-false a (b - n) e (omega arith))))

-- ---- the first chunk with an id

-- it stands at row j, and none before it
pub first-here : (g : List ℕ) (c j : ℕ) → chunk_in g c j ≡ None → chunk_id g j ≡ c → chunk_in g c (suc j) ≡ Some j
unfolding chunk_in
first-here g c j n e = rw (n, eq-eqb (chunk_id g j) c e)

-- none stands at row j or before it
pub first_past : (g : List ℕ) (c j : ℕ) → chunk_in g c j ≡ None → (chunk_id g j ≡ c → ⊥) → chunk_in g c (j + 1) ≡ None
unfolding chunk_in
first_past g c j n e = rw (add-one, n, ne_eqb (chunk_id g j) c e)

-- more rows change nothing
pub first-stays : (g : List ℕ) (c k d j : ℕ) → chunk_in g c k ≡ Some j → chunk_in g c (k + d) ≡ Some j
unfolding chunk_in
first-stays g c k zero j e = let z : k + zero ≡ k = omega arith in rw z e
first-stays g c k (suc d) j e = let z : k + suc d ≡ suc (k + d) = omega arith in rw (z, first-stays g c k d j e)

-- it is one of the rows
pub first_below : (g : List ℕ) (c n k : ℕ) → chunk_in g c n ≡ Some k → k < n
unfolding chunk_in
first_below g c zero k e = let z : ◌≡◌ {A = ℕ} 0 1 = cc in absurd (omega arith)
first_below g c (suc n) k e = go (chunk_in g c n) refl (λ e'. first_below g c n k e') (eqb (chunk_id g n) c) e
  where
    go : (o : Option ℕ) → chunk_in g c n ≡ o → (chunk_in g c n ≡ Some k → k < n) → (b : Bool)
        → if_some o (cond b (Some n) None) (λ j. Some j) ≡ Some k → k < suc n
    go None p rec true h = let z : n ≡ k = cc in omega arith
    go None p rec false h = let z : ◌≡◌ {A = ℕ} 0 1 = cc in absurd (omega arith)
    go (Some j) p rec b h = let z : k < n = rec (p ∙ h) in omega arith

-- it is row j of n
pub first_of_lem : (g : List ℕ) (c j n : ℕ) → j < n → chunk_in g c j ≡ None → chunk_id g j ≡ c → chunk_in g c n ≡ cond (ltb j n) (Some j) None
first_of_lem g c j n h e q =
    let z : suc j + (n - suc j) ≡ n = omega arith in
    rw (lt-ltb j n h) (rw z at (first-stays g c (suc j) (n - suc j) j (first-here g c j e q)))

-- none of n rows is one
pub none_of : (g : List ℕ) (c n : ℕ) → chunk_in g c n ≡ None → chunk_in g c n ≡ cond (ltb n n) (Some n) None
none_of g c n e = rw (le-ltb n n (omega arith)) e

-- where it stands
module _ (g : List ℕ) (c n j : ℕ) (all : n ≡ chunk_count g) (first : chunk_in g c n ≡ cond (ltb j n) (Some j) None) where
  pub found : j < n → (chunk_offset g j ≡ chunk_start g c) × (chunk_offset g (suc j) - chunk_offset g j ≡ chunk_size g c)
  unfolding chunk_start chunk_size
  found h = let f : chunk_in g c (chunk_count g) ≡ Some j = rw (lt-ltb j n h, all) at first in (rw f, rw f)

  pub absent : n ≤ j → (0 ≡ chunk_start g c) × (0 ≡ chunk_size g c)
  unfolding chunk_start chunk_size
  absent h = let f : chunk_in g c (chunk_count g) ≡ None = rw (le-ltb j n h, all) at first in (rw f, rw f)

-- ---- how many chunks have an id

pub count-one : (g : List ℕ) (c k : ℕ) → chunk_id g k ≡ c → chunks_of g c k + 1 ≡ chunks_of g c (k + 1)
unfolding chunks_of
count-one g c k e = rw (add-one k, eq-eqb (chunk_id g k) c e)

pub count_same : (g : List ℕ) (c k : ℕ) → (chunk_id g k ≡ c → ⊥) → chunks_of g c k ≡ chunks_of g c (k + 1)
unfolding chunks_of
count_same g c k e = rw (add-one k, ne_eqb (chunk_id g k) c e) (omega arith)

-- ---- offsets

-- what fails among the first rows fails among more
pub offsets_less : (g : List ℕ) (k d : ℕ) → offsets_rise g (k + d) ≡ true → offsets_rise g k ≡ true
unfolding offsets_rise
offsets_less g k zero e = let z : k + zero ≡ k = omega arith in rw z at e
offsets_less g k (suc d) e =
    let z : k + suc d ≡ suc (k + d) = omega arith in
    offsets_less g k d (guard_test (offsets_rise g (k + d)) _ (rw z at e))

pub offsets_step : (g : List ℕ) (k : ℕ) → offsets_rise g (suc k) ≡ true → chunk_offset g k ≤ chunk_offset g (suc k)
unfolding offsets_rise
offsets_step g k e = leb-true _ _ (guarded (offsets_rise g k) _ e)

-- one row more
pub offsets_more : (g : List ℕ) (k : ℕ) → offsets_rise g k ≡ true → chunk_offset g k ≤ chunk_offset g (k + 1) → offsets_rise g (k + 1) ≡ true
unfolding offsets_rise
offsets_more g k e h = rw (add-one k, e) (le-leb _ _ (rw (add-one k) at h))

-- an offset that falls
pub offsets_fall : (g : List ℕ) (n k : ℕ) → k < n → chunk_offset g (k + 1) < chunk_offset g k → offsets_rise g n ≡ false
offsets_fall g n k l h =
    not_yes
    (λ e.
    let z : suc k + (n - suc k) ≡ n = omega arith in
    let m : chunk_offset g (suc k) < chunk_offset g k = rw (add-one k) at h in
    omega (arith, offsets_step g k (offsets_less g (suc k) (n - suc k) (rw z e))))

pub offsets_up : (g : List ℕ) (k d : ℕ) → offsets_rise g (k + d) ≡ true → chunk_offset g k ≤ chunk_offset g (k + d)
offsets_up g k zero e = let z : k + zero ≡ k = omega arith in rw z (omega arith)
offsets_up g k (suc d) e =
    let z : k + suc d ≡ suc (k + d) = omega arith in
    let m : k + d + 1 ≡ k + suc d = omega arith in
    let f : offsets_rise g (suc (k + d)) ≡ true = rw z at e in
    let p : chunk_offset g k ≤ chunk_offset g (k + d) = offsets_up g k d (offsets_less g (k + d) 1 (rw m e)) in
    rw z (omega (arith, offsets_step g (k + d) f))

-- what a right table tells
pub record RightTable (w : ℕ) (g : List ℕ) : Type 0 where
  pub room : 8 + 12 * (chunk_count g + 1) + w ≤ length g
  pub last_id : chunk_id g (chunk_count g) ≡ 0
  pub first : chunk_offset g 0 ≡ 8 + 12 * (chunk_count g + 1)
  pub last : chunk_offset g (chunk_count g) + w ≡ length g
  pub rise : offsets_rise g (chunk_count g) ≡ true
  pub one_fan : chunks_of g OIDF (chunk_count g) ≡ 1
  pub one_ids : chunks_of g OIDL (chunk_count g) ≡ 1
  pub one_rows : chunks_of g CDAT (chunk_count g) ≡ 1
  pub few_edges : chunks_of g EDGE (chunk_count g) ≤ 1

pub table-right : (w : ℕ) (g : List ℕ) → table_ok w g ≡ true → RightTable w g
unfolding table_ok
table-right w g e =
    let n = chunk_count g in
    let a : Bool = eqb (chunk_id g n) 0 in
    let b : Bool = eqb (chunk_offset g 0) (8 + 12 * (n + 1)) in
    let c : Bool = eqb (chunk_offset g n + w) (length g) in
    let d : Bool = offsets_rise g n in
    let f : Bool = eqb (chunks_of g OIDF n) 1 in
    let r = all_four (a && b && c && d && f) (eqb (chunks_of g OIDL n) 1) (eqb (chunks_of g CDAT n) 1) (leb (chunks_of g EDGE n) 1) (guarded (leb (8 + 12 * (n + 1) + w) (length g)) _ e) in
    let q = all_four (a && b) c d f r.0 in
    record {
      room = leb-true _ _ (guard_test (leb (8 + 12 * (n + 1) + w) (length g)) _ e);
      last_id = eqb-true _ _ (and_first a b q.0);
      first = eqb-true _ _ (and_second a b q.0);
      last = eqb-true _ _ q.1;
      rise = q.2;
      one_fan = eqb-true _ _ q.3;
      one_ids = eqb-true _ _ r.1;
      one_rows = eqb-true _ _ r.2;
      few_edges = leb-true _ _ r.3;
    }

-- a chunk ends where the next starts, before the checksum
pub chunk_inside : (w : ℕ) (g : List ℕ) (c : ℕ) → RightTable w g → chunk_start g c + chunk_size g c + w ≤ length g
unfolding chunk_start chunk_size
chunk_inside w g c t = go (chunk_in g c (chunk_count g)) refl
  where
    go : (o : Option ℕ) → chunk_in g c (chunk_count g) ≡ o
        → if_some o 0 (λ k. chunk_offset g k) + if_some o 0 (λ k. chunk_offset g (suc k) - chunk_offset g k) + w ≤ length g
    go None e = omega (arith, t.room)
    go (Some k) e =
        let n = chunk_count g in
        let l : k < n = first_below g c n k e in
        let z : k + 1 ≡ suc k = omega arith in
        let y : suc k + (n - suc k) ≡ n = omega arith in
        let s : chunk_offset g k ≤ chunk_offset g (suc k) = offsets_step g k (offsets_less g (suc k) (n - suc k) (rw y t.rise)) in
        let u : chunk_offset g (suc k) ≤ chunk_offset g n = rw y at (offsets_up g (suc k) (n - suc k) (rw y t.rise)) in
        omega (arith, t.last)

-- ---- N

-- N is the last entry of the fan-out, for a zero-length graph too
pub graph-count : (g : List ℕ) → graph_count g ≡ fan_at g 255
unfolding graph_count fan_at u32_at
graph-count [] = refl
graph-count (x ∷ g) = refl

-- N as it is read where the fan-out starts
pub count_at : (g : List ℕ) (fan : ℕ) → fan ≡ chunk_start g OIDF → u32_at g (fan + 1020) ≡ graph_count g
unfolding fan_at
count_at g fan e = ap (λ (s : ℕ). u32_at g (s + 1020)) e ∙ sym (graph-count g)
