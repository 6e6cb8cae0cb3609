-- The table of the written file: the reader finds the chunks where they stand. Assumes nothing.
use Rattle.std.specs.Prelude.{None, Some}
use mathlib.Core.Path.{◌≡◌, refl, sym, ◌∙◌, subst}
use mathlib.Core.Bool.{true}
use mathlib.Core.List.{List, [], ◌∷◌, ◌++◌}
use Prim.Native.Nat.{ℕ, suc, ◌+◌, ◌*◌, ◌-◌, ◌≤◌, ◌<◌}
use native.Mathlib.Omega.{arith}
use native.Mathlib.Nat.{zero-add}
use lib.ListN.{length, take, get_or, length-append}
use lib.Dec.{eqb}
use borrow.Author.Tests.{eq-eqb, le-leb}
use Rattle.hash.proofs.Ids.{eq_id_refl}
use Rattle.hash.proofs.Widths.{times-most}
use Rattle.hash.specs.Bytes.{u32_at, u64_at}
use Rattle.commitgraph.specs.Graph.{OIDF, OIDL, CDAT, EDGE, row_size, graph_head, chunk_count, chunk_id, chunk_offset, offsets_rise, chunks_of, chunk_in, chunk_start, chunk_size, table_ok}
use Rattle.commitgraph.proofs.Table.{RightTable}
use Rattle.graphfile.specs.GraphFile.{u32, ids_end, rows_end, three_chunks, four_chunks}
use Rattle.graphfile.proofs.Pieces.{back32}

-- what the reader finds in the table: the fan-out at o, n rows, e entries of EDGE
pub record Chunks (v w : ℕ) (g : List ℕ) (o n e : ℕ) : Type 0 where
  pub head : graph_head v g ≡ true
  pub table : table_ok w g ≡ true
  pub fan : chunk_start g OIDF ≡ o
  pub fan_size : chunk_size g OIDF ≡ 1024
  pub ids : chunk_start g OIDL ≡ o + 1024
  pub ids-size : chunk_size g OIDL ≡ w * n
  pub rows : chunk_start g CDAT ≡ ids_end w o n
  pub rows-size : chunk_size g CDAT ≡ row_size w * n
  pub edge : 0 < e → chunk_start g EDGE ≡ rows_end w o n
  pub edge_size : chunk_size g EDGE ≡ 4 * e

of_right : (w : ℕ) (g : List ℕ) → RightTable w g → table_ok w g ≡ true
unfolding table_ok
of_right w g t =
    rw (
      le-leb (8 + 12 * (chunk_count g + 1) + w) (length g) t.room,
      eq-eqb (chunk_id g (chunk_count g)) 0 t.last_id,
      eq-eqb (chunk_offset g 0) (8 + 12 * (chunk_count g + 1)) t.first,
      eq-eqb (chunk_offset g (chunk_count g) + w) (length g) t.last,
      t.rise,
      eq-eqb (chunks_of g OIDF (chunk_count g)) 1 t.one_fan,
      eq-eqb (chunks_of g OIDL (chunk_count g)) 1 t.one_ids,
      eq-eqb (chunks_of g CDAT (chunk_count g)) 1 t.one_rows,
      le-leb (chunks_of g EDGE (chunk_count g)) 1 t.few_edges,
    )

start_of_lem : (g : List ℕ) (c n k : ℕ) → chunk_count g ≡ n → chunk_in g c n ≡ Some k → chunk_start g c ≡ chunk_offset g k
unfolding chunk_start
start_of_lem g c n k ec e = rw (ec, e)

size_of : (g : List ℕ) (c n k : ℕ) → chunk_count g ≡ n → chunk_in g c n ≡ Some k → chunk_size g c ≡ chunk_offset g (suc k) - chunk_offset g k
unfolding chunk_size
size_of g c n k ec e = rw (ec, e)

size_none : (g : List ℕ) (c n : ℕ) → chunk_count g ≡ n → chunk_in g c n ≡ None → chunk_size g c ≡ 0
unfolding chunk_size
size_none g c n ec e = rw (ec, e)

-- ---- three chunks

module _ (v w : ℕ) (g : List ℕ) (n : ℕ) (cc3 : chunk_count g ≡ 3) (i0 : chunk_id g 0 ≡ OIDF) (i1 : chunk_id g 1 ≡ OIDL) (i2 : chunk_id g 2 ≡ CDAT) (i3 : chunk_id g 3 ≡ 0)
    (o0 : chunk_offset g 0 ≡ 56) (o1 : chunk_offset g 1 ≡ 1080) (o2 : chunk_offset g 2 ≡ ids_end w 56 n) (o3 : chunk_offset g 3 ≡ rows_end w 56 n)
    (long : length g ≡ rows_end w 56 n + w) where
  rise3 : offsets_rise g 3 ≡ true
  unfolding offsets_rise
  rise3 =
      rw (
        le-leb (chunk_offset g 0) (chunk_offset g 1) (omega arith),
        le-leb (chunk_offset g 1) (chunk_offset g 2) (omega arith),
        le-leb (chunk_offset g 2) (chunk_offset g 3) (omega arith),
      )

  ones3 : (chunks_of g OIDF 3 ≡ 1) × (chunks_of g OIDL 3 ≡ 1) × (chunks_of g CDAT 3 ≡ 1) × (chunks_of g EDGE 3 ≡ 0)
  unfolding chunks_of
  ones3 = (rw (i0, i1, i2), rw (i0, i1, i2), rw (i0, i1, i2), rw (i0, i1, i2))

  in3 : (chunk_in g OIDF 3 ≡ Some 0) × (chunk_in g OIDL 3 ≡ Some 1) × (chunk_in g CDAT 3 ≡ Some 2) × (chunk_in g EDGE 3 ≡ None)
  unfolding chunk_in
  in3 = (rw i0, rw (i0, i1), rw (i0, i1, i2), rw (i0, i1, i2))

  right3 : RightTable w g
  right3 =
      record {
        room = omega arith;
        last_id = subst (λ (c : ℕ). chunk_id g c ≡ 0) (sym cc3) i3;
        first = omega arith;
        last = subst (λ (c : ℕ). chunk_offset g c + w ≡ length g) (sym cc3) (omega arith);
        rise = subst (λ (c : ℕ). offsets_rise g c ≡ true) (sym cc3) rise3;
        one_fan = subst (λ (c : ℕ). chunks_of g OIDF c ≡ 1) (sym cc3) ones3.0;
        one_ids = subst (λ (c : ℕ). chunks_of g OIDL c ≡ 1) (sym cc3) ones3.1;
        one_rows = subst (λ (c : ℕ). chunks_of g CDAT c ≡ 1) (sym cc3) ones3.2;
        few_edges = subst (λ (c : ℕ). chunks_of g EDGE c ≤ 1) (sym cc3) (omega (arith, ones3.3));
      }

  chunks3 : graph_head v g ≡ true → Chunks v w g 56 n 0
  chunks3 h =
      record {
        head = h;
        table = of_right w g right3;
        fan = start_of_lem g OIDF 3 0 cc3 in3.0 ∙ o0;
        fan_size = omega (arith, size_of g OIDF 3 0 cc3 in3.0);
        ids = start_of_lem g OIDL 3 1 cc3 in3.1 ∙ o1;
        ids-size = omega (arith, size_of g OIDL 3 1 cc3 in3.1);
        rows = start_of_lem g CDAT 3 2 cc3 in3.2 ∙ o2;
        rows-size = omega (arith, size_of g CDAT 3 2 cc3 in3.2);
        edge = λ z. absurd (omega arith);
        edge_size = size_none g EDGE 3 cc3 in3.3;
      }

-- ---- four chunks

module _ (v w : ℕ) (g : List ℕ) (n e : ℕ) (cc4 : chunk_count g ≡ 4) (i0 : chunk_id g 0 ≡ OIDF) (i1 : chunk_id g 1 ≡ OIDL) (i2 : chunk_id g 2 ≡ CDAT) (i3 : chunk_id g 3 ≡ EDGE)
    (i4 : chunk_id g 4 ≡ 0) (o0 : chunk_offset g 0 ≡ 68) (o1 : chunk_offset g 1 ≡ 1092) (o2 : chunk_offset g 2 ≡ ids_end w 68 n) (o3 : chunk_offset g 3 ≡ rows_end w 68 n)
    (o4 : chunk_offset g 4 ≡ rows_end w 68 n + 4 * e) (long : length g ≡ rows_end w 68 n + 4 * e + w) where
  rise4 : offsets_rise g 4 ≡ true
  unfolding offsets_rise
  rise4 =
      rw (
        le-leb (chunk_offset g 0) (chunk_offset g 1) (omega arith),
        le-leb (chunk_offset g 1) (chunk_offset g 2) (omega arith),
        le-leb (chunk_offset g 2) (chunk_offset g 3) (omega arith),
        le-leb (chunk_offset g 3) (chunk_offset g 4) (omega arith),
      )

  ones4 : (chunks_of g OIDF 4 ≡ 1) × (chunks_of g OIDL 4 ≡ 1) × (chunks_of g CDAT 4 ≡ 1) × (chunks_of g EDGE 4 ≡ 1)
  unfolding chunks_of
  ones4 = (rw (i0, i1, i2, i3), rw (i0, i1, i2, i3), rw (i0, i1, i2, i3), rw (i0, i1, i2, i3))

  in4 : (chunk_in g OIDF 4 ≡ Some 0) × (chunk_in g OIDL 4 ≡ Some 1) × (chunk_in g CDAT 4 ≡ Some 2) × (chunk_in g EDGE 4 ≡ Some 3)
  unfolding chunk_in
  in4 = (rw i0, rw (i0, i1), rw (i0, i1, i2), rw (i0, i1, i2, i3))

  right4 : RightTable w g
  right4 =
      record {
        room = omega arith;
        last_id = subst (λ (c : ℕ). chunk_id g c ≡ 0) (sym cc4) i4;
        first = omega arith;
        last = subst (λ (c : ℕ). chunk_offset g c + w ≡ length g) (sym cc4) (omega arith);
        rise = subst (λ (c : ℕ). offsets_rise g c ≡ true) (sym cc4) rise4;
        one_fan = subst (λ (c : ℕ). chunks_of g OIDF c ≡ 1) (sym cc4) ones4.0;
        one_ids = subst (λ (c : ℕ). chunks_of g OIDL c ≡ 1) (sym cc4) ones4.1;
        one_rows = subst (λ (c : ℕ). chunks_of g CDAT c ≡ 1) (sym cc4) ones4.2;
        few_edges = subst (λ (c : ℕ). chunks_of g EDGE c ≤ 1) (sym cc4) (omega (arith, ones4.3));
      }

  chunks4 : graph_head v g ≡ true → Chunks v w g 68 n e
  chunks4 h =
      record {
        head = h;
        table = of_right w g right4;
        fan = start_of_lem g OIDF 4 0 cc4 in4.0 ∙ o0;
        fan_size = omega (arith, size_of g OIDF 4 0 cc4 in4.0);
        ids = start_of_lem g OIDL 4 1 cc4 in4.1 ∙ o1;
        ids-size = omega (arith, size_of g OIDL 4 1 cc4 in4.1);
        rows = start_of_lem g CDAT 4 2 cc4 in4.2 ∙ o2;
        rows-size = omega (arith, size_of g CDAT 4 2 cc4 in4.2);
        edge = λ z. start_of_lem g EDGE 4 3 cc4 in4.3 ∙ o3;
        edge_size = omega (arith, size_of g EDGE 4 3 cc4 in4.3);
      }

-- ---- of the written front

head_of : (v : ℕ) (g : List ℕ) → 8 ≤ length g → take 6 g ≡ (67 ∷ 71 ∷ 80 ∷ 72 ∷ 1 ∷ v ∷ []) → eqb (get_or g 7 0) 0 ≡ true → graph_head v g ≡ true
unfolding graph_head
head_of v g h e f = rw (le-leb 8 (length g) h, e, eq_id_refl (67 ∷ 71 ∷ 80 ∷ 72 ∷ 1 ∷ v ∷ []), f)

-- the products stay small
few-ids : (w n : ℕ) → w ≤ 32 → n ≤ 1048576 → w * n ≤ 33554432
few-ids w n a b = omega (arith, times-most w 32 n 1048576 a b)

offset_three : (v w n : ℕ) (body : List ℕ) → w ≤ 32 → n ≤ 1048576
    → (chunk_offset (three_chunks v w n ++ body) 2 ≡ ids_end w 56 n) × (chunk_offset (three_chunks v w n ++ body) 3 ≡ rows_end w 56 n)
unfolding chunk_offset u64_at three_chunks u32_at
offset_three v w n body m h = (
  zero-add (u32_at (u32 (ids_end w 56 n)) 0) ∙ back32 (ids_end w 56 n) (omega (arith, few-ids w n m h)),
  zero-add (u32_at (u32 (rows_end w 56 n)) 0) ∙ back32 (rows_end w 56 n) (omega (arith, few-ids w n m h)),
)

pub three : (v w n : ℕ) (body : List ℕ) → w ≤ 32 → n ≤ 1048576 → length body ≡ 1024 + w * n + row_size w * n + w → Chunks v w (three_chunks v w n ++ body) 56 n 0
unfolding chunk_count chunk_id chunk_offset u64_at u32_at three_chunks
three v w n body m h l =
    chunks3 v w (three_chunks v w n ++ body) n refl refl refl refl refl refl refl (offset_three v w n body m h).0 (offset_three v w n body m h).1
    (length-append (three_chunks v w n) body ∙ (let e : 56 + length body ≡ rows_end w 56 n + w = omega arith in e))
    (head_of v (three_chunks v w n ++ body) (omega (arith, length-append (three_chunks v w n) body)) refl refl)

offset_four : (v w n e : ℕ) (body : List ℕ) → w ≤ 32 → n ≤ 1048576 → e ≤ 268435456
    → (chunk_offset (four_chunks v w n e ++ body) 2 ≡ ids_end w 68 n) × (chunk_offset (four_chunks v w n e ++ body) 3 ≡ rows_end w 68 n)
    × (chunk_offset (four_chunks v w n e ++ body) 4 ≡ rows_end w 68 n + 4 * e)
unfolding chunk_offset u64_at four_chunks u32_at
offset_four v w n e body m h k = (
  zero-add (u32_at (u32 (ids_end w 68 n)) 0) ∙ back32 (ids_end w 68 n) (omega (arith, few-ids w n m h)),
  zero-add (u32_at (u32 (rows_end w 68 n)) 0) ∙ back32 (rows_end w 68 n) (omega (arith, few-ids w n m h)),
  zero-add (u32_at (u32 (rows_end w 68 n + 4 * e)) 0) ∙ back32 (rows_end w 68 n + 4 * e) (omega (arith, few-ids w n m h)),
)

pub four : (v w n e : ℕ) (body : List ℕ) → w ≤ 32 → n ≤ 1048576 → e ≤ 268435456 → length body ≡ 1024 + w * n + row_size w * n + w + 4 * e → Chunks v w (four_chunks v w n e ++ body) 68 n e
unfolding chunk_count chunk_id chunk_offset u64_at u32_at four_chunks
four v w n e body m h k l =
    chunks4 v w (four_chunks v w n e ++ body) n e refl refl refl refl refl refl refl refl (offset_four v w n e body m h k).0 (offset_four v w n e body m h k).1 (offset_four v w n e body m h k).2
    (length-append (four_chunks v w n e) body ∙ (let z : 68 + length body ≡ rows_end w 68 n + 4 * e + w = omega arith in z))
    (head_of v (four_chunks v w n e ++ body) (omega (arith, length-append (four_chunks v w n e) body)) refl refl)
