-- What a right graph file (document 01: the graph file) tells its readers: where its chunks stand, that its ids rise, and between
-- which entries of the fan-out an id stands. Each chunk ends before the checksum, and its size is told by N.
-- Assumes nothing.
use mathlib.Core.Path.{◌≡◌, sym, ap, ◌∙◌}
use mathlib.Core.Bool.{Bool, true, ◌&&◌}
use mathlib.Core.List.{List}
use Prim.Native.Nat.{ℕ, suc, ◌+◌, ◌*◌, ◌/◌, ◌%◌, ◌≤◌, ◌<◌}
use native.Mathlib.Omega.{arith}
use lib.ListN.{length, get_or}
use lib.Dec.{eqb}
use borrow.Author.Tests.{eqb-true}
use Rattle.idlist.specs.IdList.{id_of, rising}
use Rattle.hash.proofs.Tests.{and_first, and_second, guard_test, guarded}
use Rattle.commitgraph.specs.Graph.{chunk_start, chunk_size, OIDF, OIDL, CDAT, EDGE, table_ok, row_size, fan_at, graph_count, graph_ids, first_byte, fan_ok, chunks_ok, graph_ok}
use Rattle.commitgraph.proofs.Table.{all_four, RightTable, table-right, chunk_inside}
use Rattle.commitgraph.proofs.Fan.{Between, between, first_of-id, fan_counts, count_le}

-- the sizes of the chunks
pub record Sizes (w : ℕ) (g : List ℕ) : Type 0 where
  pub fan : chunk_size g OIDF ≡ 1024
  pub ids : chunk_size g OIDL ≡ w * graph_count g
  pub rows : chunk_size g CDAT ≡ row_size w * graph_count g
  pub edge : chunk_size g EDGE % 4 ≡ 0

abbrev pub sized : ℕ → List ℕ → Bool
sized w g =
    eqb (chunk_size g OIDF) 1024 && eqb (chunk_size g OIDL) (w * graph_count g) && eqb (chunk_size g CDAT) (row_size w * graph_count g) && eqb (chunk_size g EDGE % 4) 0

pub sizes : (w : ℕ) (g : List ℕ) → sized w g ≡ true → Sizes w g
sizes w g e =
    let n = graph_count g in
    let r = all_four (eqb (chunk_size g OIDF) 1024) (eqb (chunk_size g OIDL) (w * n)) (eqb (chunk_size g CDAT) (row_size w * n)) (eqb (chunk_size g EDGE % 4) 0) e in
    record { fan = eqb-true _ _ r.0; ids = eqb-true _ _ r.1; rows = eqb-true _ _ r.2; edge = eqb-true _ _ r.3 }

-- where the chunks stand
pub record Placed (w : ℕ) (g : List ℕ) : Type 0 where
  pub fan : chunk_start g OIDF + 1024 ≤ length g
  pub ids : chunk_start g OIDL + w * graph_count g ≤ length g
  pub rows : chunk_start g CDAT + row_size w * graph_count g ≤ length g
  pub edge : chunk_start g EDGE + 4 * (chunk_size g EDGE / 4) ≤ length g

pub placed : (w : ℕ) (g : List ℕ) → table_ok w g ≡ true → sized w g ≡ true → Placed w g
placed w g e f =
    let t : RightTable w g = table-right w g e in
    let s : Sizes w g = sizes w g f in
    record {
      fan = omega (arith, chunk_inside w g OIDF t, s.fan);
      ids = omega (arith, chunk_inside w g OIDL t, s.ids);
      rows = omega (arith, chunk_inside w g CDAT t, s.rows);
      edge = omega (arith, chunk_inside w g EDGE t);
    }

-- what a right file is
pub record Right (w : ℕ) (g : List ℕ) : Type 0 where
  pub places : Placed w g
  pub fan_right : fan_ok w g 256 ≡ true
  pub ids_rise : rising (graph_ids w g) (graph_count g) ≡ true

pub right : (w : ℕ) (g : List ℕ) → graph_ok w g ≡ true → Right w g
unfolding graph_ok chunks_ok
right w g e =
    let c = guarded (table_ok w g) (chunks_ok w g) e in
    let r = guarded (sized w g) (fan_ok w g 256 && rising (graph_ids w g) (graph_count g)) c in
    record {
      places = placed w g (guard_test (table_ok w g) _ e) (guard_test (sized w g) (fan_ok w g 256 && rising (graph_ids w g) (graph_count g)) c);
      fan_right = and_first (fan_ok w g 256) _ r;
      ids_rise = and_second (fan_ok w g 256) _ r;
    }

-- the ids of x's first byte b stand from entry b - 1 (0 where b is 0) up to entry b of the fan-out, which is at most N
pub record InFan (g : List ℕ) (b k : ℕ) : Type 0 where
  pub past : (i : ℕ) → suc i ≡ b → fan_at g i ≤ k
  pub before : k < fan_at g b
  pub within : fan_at g b ≤ graph_count g

pub in_fan : (w : ℕ) (g x : List ℕ) (k : ℕ) → 0 < w → graph_ok w g ≡ true → k < graph_count g → id_of (graph_ids w g) k ≡ x → get_or x 0 0 < 256 → InFan g (get_or x 0 0) k
in_fan w g x k some_bytes ok l e s =
    let r = right w g ok in
    let h : first_byte w g k ≡ get_or x 0 0 = sym (first_of-id w g k some_bytes) ∙ ap (λ (y : List ℕ). get_or y 0 0) e in
    let m : Between w g k = between w g k r.fan_right r.ids_rise l (rw h s) in
    record {
      past = λ i q. m.past i (q ∙ sym h);
      before = rw h at m.before;
      within = omega (arith, fan_counts w g 256 (get_or x 0 0) r.fan_right s, count_le w g (get_or x 0 0) (graph_count g));
    }
