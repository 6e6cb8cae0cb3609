-- The reader takes the written file, and reads back each row. Assumes nothing.
use Rattle.std.specs.Prelude.{Some}
use mathlib.Core.Path.{◌≡◌, refl, sym, ◌∙◌, ap, subst}
use mathlib.Core.Bool.{true, false, cond}
use mathlib.Core.List.{List, [], ◌∷◌, ◌++◌}
use Prim.Native.Nat.{ℕ, zero, suc, ◌+◌, ◌*◌, ◌/◌, ◌%◌, ◌≤◌, ◌<◌}
use native.Mathlib.Omega.{arith}
use lib.ListN.{length, get_or, length-append}
use lib.Dec.{eqb, leb}
use lib.IntN.{pos}
use borrow.Author.Tests.{eq-eqb, le-leb, eqb-true}
use Rattle.hash.specs.Bytes.{Id, u32_at, lt_id}
use Rattle.hash.proofs.Tests.{by_cases, guard_of}
use Rattle.idlist.specs.IdList.{id_of, rises_at, rising}
use Rattle.commitgraph.specs.Graph.{row_size, places_of, stated_level, levelled, OIDF, OIDL, CDAT, EDGE, graph_ok, table_ok, chunks_ok, chunk_start, chunk_size, fan_at, fan_ok, graph_count, graph_ids, graph_id, first_byte, at_most, layout_of, row_in, edge_in, seconds_in, graph_parents, generation, graph_seconds}
use Rattle.commitgraph.specs.declared.Layout.{Layout}
use Rattle.commitgraph.proofs.Levels.{levels-all, level-used}
use Rattle.commitgraph.proofs.Table.{graph-count}
use Rattle.commitgraph.proofs.Fan.{first_of-id}
use Rattle.graphfile.specs.GraphFile.{rows_end, Row, row_at, u32, flat, words, at_most_in, fan_from, ids_in, marked, edges_of, edges_in, first_of, second_of, row_bytes, data_from, three_chunks, four_chunks, front_of, file_with, graph_file, file_length, RowRight, RowsRight, ReadBack}
use Rattle.graphfile.proofs.Pieces.{back32, past32, past-at, Wide, length_flat, stride, length_words, wide-words, word_there, length_fan, fan_there, at_most_le, length_ids, nth_ids, edges_before, length_data, nth_data, edges-there}
use Rattle.graphfile.proofs.Chunks.{Chunks, three, four}
use Rattle.graphfile.proofs.Parents.{length_marked, parents-read}

-- ---- the bytes of a row

pub length_row : (w e : ℕ) (r : Row) → length r.tree ≡ w → length (row_bytes e r) ≡ row_size w
unfolding row_bytes
length_row w e r h =
    omega (arith, length-append r.tree (u32 (first_of r.parents) ++ (u32 (second_of e r.parents) ++ (u32 (r.level * 4 + r.seconds / 4294967296) ++ u32 (r.seconds % 4294967296)))))

module _ (w e n : ℕ) (r : Row) (h : RowRight w n r) (small : n ≤ 1048576) (few : e ≤ 268435456) where
  first-low : (ps : List ℕ) → ((j : ℕ) → j < length ps → get_or ps j 0 < n) → first_of ps < 4294967296
  unfolding first_of
  first-low [] m = omega arith
  first-low (a ∷ ps) m = let b : a < n = m 0 (omega arith) in omega arith

  second-low : (ps : List ℕ) → ((j : ℕ) → j < length ps → get_or ps j 0 < n) → second_of e ps < 4294967296
  unfolding second_of
  second-low [] m = omega arith
  second-low (a ∷ []) m = omega arith
  second-low (a ∷ (b ∷ [])) m = let c : b < n = m 1 (omega arith) in omega arith
  second-low (a ∷ (b ∷ (c ∷ ps))) m = omega arith

  rest : List ℕ
  rest = u32 (first_of r.parents) ++ (u32 (second_of e r.parents) ++ (u32 (r.level * 4 + r.seconds / 4294967296) ++ u32 (r.seconds % 4294967296)))

  row_first : u32_at (row_bytes e r) w ≡ first_of r.parents
  unfolding row_bytes rest u32_at
  row_first = past32 r.tree rest w w 0 h.tree-long (omega arith) ∙ back32 (first_of r.parents) (first-low r.parents h.inside)

  row-second : u32_at (row_bytes e r) (w + 4) ≡ second_of e r.parents
  unfolding row_bytes rest u32_at
  row-second = past32 r.tree rest (w + 4) w 4 h.tree-long (omega arith) ∙ back32 (second_of e r.parents) (second-low r.parents h.inside)

  row-third : u32_at (row_bytes e r) (w + 8) ≡ r.level * 4 + r.seconds / 4294967296
  unfolding row_bytes rest u32_at
  row-third = past32 r.tree rest (w + 8) w 8 h.tree-long (omega arith) ∙ back32 (r.level * 4 + r.seconds / 4294967296) (let a = h.level-fits in let b = h.seconds-fit in omega arith)

  row-fourth : u32_at (row_bytes e r) (w + 12) ≡ r.seconds % 4294967296
  unfolding row_bytes rest u32_at
  row-fourth = past32 r.tree rest (w + 12) w 12 h.tree-long (omega arith) ∙ back32 (r.seconds % 4294967296) (omega arith)

-- ---- bounds of what EDGE holds

get_d_marked : (n : ℕ) → n ≤ 1048576 → (qs : List ℕ) (i : ℕ) → ((j : ℕ) → j < length qs → get_or qs j 0 < n) → i < length qs → get_or (marked qs) i 0 < 4294967296
unfolding marked
get_d_marked n s [] i m l = absurd (omega arith)
get_d_marked n s (q ∷ []) zero m l = let b : q < n = m 0 (omega arith) in omega arith
get_d_marked n s (q ∷ []) (suc i) m l = absurd (omega arith)
get_d_marked n s (q ∷ (p ∷ ps)) zero m l = let b : q < n = m 0 (omega arith) in omega arith
get_d_marked n s (q ∷ (p ∷ ps)) (suc i) m l = get_d_marked n s (p ∷ ps) i (λ j d. m (suc j) (omega arith)) (omega arith)

edges-low : (n : ℕ) → n ≤ 1048576 → (ps : List ℕ) (i : ℕ) → ((j : ℕ) → j < length ps → get_or ps j 0 < n) → i < length (edges_of ps) → get_or (edges_of ps) i 0 < 4294967296
unfolding edges_of
edges-low n s [] i m l = absurd (omega arith)
edges-low n s (a ∷ []) i m l = absurd (omega arith)
edges-low n s (a ∷ (b ∷ [])) i m l = absurd (omega arith)
edges-low n s (a ∷ (b ∷ (c ∷ ps))) i m l =
    get_d_marked n s (b ∷ (c ∷ ps)) i (λ j d. m (suc j) (omega arith)) (omega (arith, length_marked (b ∷ (c ∷ ps))))

few-before : (qs : List Row) (i : ℕ) → i < length qs → edges_before qs i ≤ length (edges_in qs)
unfolding edges_before edges_in
few-before [] i h = absurd (omega arith)
few-before (r ∷ qs) zero h = omega arith
few-before (r ∷ qs) (suc i) h = omega (arith, few-before qs i (omega arith), length-append (edges_of r.parents) (edges_in qs))

-- ---- tests over a file

chunks_ok_lem : (w : ℕ) (g : List ℕ) → chunk_size g OIDF ≡ 1024 → chunk_size g OIDL ≡ w * graph_count g → chunk_size g CDAT ≡ row_size w * graph_count g → chunk_size g EDGE % 4 ≡ 0
    → fan_ok w g 256 ≡ true → rising (graph_ids w g) (graph_count g) ≡ true → chunks_ok w g ≡ true
unfolding chunks_ok
chunks_ok_lem w g a b c d f r =
    rw (
      eq-eqb (chunk_size g OIDF) 1024 a,
      eq-eqb (chunk_size g OIDL) (w * graph_count g) b,
      eq-eqb (chunk_size g CDAT) (row_size w * graph_count g) c,
      eq-eqb (chunk_size g EDGE % 4) 0 d,
      f,
      r,
    )

module _ (v w : ℕ) (some_bytes : 0 < w) (rs : List Row) (end front : List ℕ) (o : ℕ) (R : RowsRight w rs) (end-long : length end ≡ w) (front_long : length front ≡ o) where
  abbrev n : ℕ
  n = length rs

  abbrev E : ℕ
  E = length (edges_in rs)

  abbrev F : List ℕ
  F = flat (words (fan_from rs 0 256))

  abbrev I : List ℕ
  I = flat (ids_in rs)

  abbrev D : List ℕ
  D = flat (data_from 0 rs)

  abbrev W : List ℕ
  W = flat (words (edges_in rs))

  abbrev body : List ℕ
  body = F ++ (I ++ (D ++ (W ++ end)))

  abbrev g : List ℕ
  g = front ++ body

  F-long : length F ≡ 1024
  F-long = length_flat 4 (words (fan_from rs 0 256)) (wide-words (fan_from rs 0 256)) ∙ ap (λ (x : ℕ). 4 * x) (length_words (fan_from rs 0 256) ∙ length_fan rs 0 256)

  wide-ids : Wide w (ids_in rs)
  wide-ids = record { each = λ k l. let h : k < length rs = omega (arith, length_ids rs) in ap length (nth_ids rs k h) ∙ (R.each k h).id-long }

  I-long : length I ≡ w * n
  I-long = length_flat w (ids_in rs) wide-ids ∙ ap (λ (x : ℕ). w * x) (length_ids rs)

  wide-data : Wide (row_size w) (data_from 0 rs)
  wide-data =
      record {
        each = λ k l.
            let h : k < length rs = omega (arith, length_data 0 rs) in
            ap length (nth_data 0 rs k h) ∙ length_row w (0 + edges_before rs k) (row_at rs k) (R.each k h).tree-long;
      }

  D-long : length D ≡ row_size w * n
  D-long = length_flat (row_size w) (data_from 0 rs) wide-data ∙ ap (λ (x : ℕ). row_size w * x) (length_data 0 rs)

  W-long : length W ≡ 4 * E
  W-long = length_flat 4 (words (edges_in rs)) (wide-words (edges_in rs)) ∙ ap (λ (x : ℕ). 4 * x) (length_words (edges_in rs))

  body-long : length body ≡ 1024 + w * n + row_size w * n + w + 4 * E
  body-long =
      omega (
        arith,
        length-append F (I ++ (D ++ (W ++ end))),
        length-append I (D ++ (W ++ end)),
        length-append D (W ++ end),
        length-append W end,
        F-long,
        I-long,
        D-long,
        W-long,
      )

  module _ (c : Chunks v w g o n E) where
    fan-at : (i : ℕ) → i < 256 → fan_at g i ≡ at_most_in rs i n
    unfolding fan_at
    fan-at i l =
        let a : get_or (fan_from rs 0 256) i 0 ≡ at_most_in rs i n = fan_there rs 0 256 i l ∙ ap (λ (x : ℕ). at_most_in rs x n) (let z : 0 + i ≡ i = omega arith in z) in
        past32 front body (chunk_start g OIDF + 4 * i) o (4 * i) front_long (omega (arith, c.fan))
        ∙ word_there (fan_from rs 0 256) (I ++ (D ++ (W ++ end))) i (omega (arith, length_fan rs 0 256)) (omega (arith, a, at_most_le rs i n, R.rows_few))
        ∙ a

    id-there : (k : ℕ) → k < n → id_of (graph_ids w g) k ≡ (row_at rs k).id
    unfolding id_of graph_ids
    id-there k l =
        past-at front body (chunk_start g OIDL + w * k) o (1024 + w * k) w front_long (omega (arith, c.ids))
        ∙ past-at F (I ++ (D ++ (W ++ end))) (1024 + w * k) 1024 (w * k) w F-long refl
        ∙ stride w (ids_in rs) (D ++ (W ++ end)) k wide-ids (omega (arith, length_ids rs))
        ∙ nth_ids rs k l

    row-there : (l : Layout) → l.rows ≡ chunk_start g CDAT → (k : ℕ) → k < n → row_in w g l k ≡ row_bytes (edges_before rs k) (row_at rs k)
    unfolding row_in
    row-there l el k h =
        past-at front body (l.rows + row_size w * k) o (1024 + (w * n + row_size w * k)) (row_size w) front_long (omega (arith, c.rows))
        ∙ past-at F (I ++ (D ++ (W ++ end))) (1024 + (w * n + row_size w * k)) 1024 (w * n + row_size w * k) (row_size w) F-long refl
        ∙ past-at I (D ++ (W ++ end)) (w * n + row_size w * k) (w * n) (row_size w * k) (row_size w) I-long refl
        ∙ stride (row_size w) (data_from 0 rs) (W ++ end) k wide-data (omega (arith, length_data 0 rs))
        ∙ nth_data 0 rs k h
        ∙ ap (λ (x : ℕ). row_bytes x (row_at rs k)) (let z : 0 + edges_before rs k ≡ edges_before rs k = omega arith in z)

    edge-there : (j : ℕ) → j < E → get_or (edges_in rs) j 0 < 4294967296 → edge_in g (layout_of w g) j ≡ get_or (edges_in rs) j 0
    unfolding edge_in layout_of
    edge-there j l low =
        past32 front body (chunk_start g EDGE + 4 * j) o (1024 + (w * n + (row_size w * n + 4 * j))) front_long (omega (arith, c.edge (omega arith)))
        ∙ past32 F (I ++ (D ++ (W ++ end))) (1024 + (w * n + (row_size w * n + 4 * j))) 1024 (w * n + (row_size w * n + 4 * j)) F-long refl
        ∙ past32 I (D ++ (W ++ end)) (w * n + (row_size w * n + 4 * j)) (w * n) (row_size w * n + 4 * j) I-long refl
        ∙ past32 D (W ++ end) (row_size w * n + 4 * j) (row_size w * n) (4 * j) D-long refl
        ∙ word_there (edges_in rs) end j l low

    -- ---- the count and the fan-out

    all-bytes : (m : ℕ) → m ≤ n → at_most_in rs 255 m ≡ m
    unfolding at_most_in
    all-bytes zero l = refl
    all-bytes (suc m) l =
        let b = (R.each m (omega arith)).id_byte in
        rw (le-leb (get_or (row_at rs m).id 0 0) 255 b) (omega (arith, all-bytes m (omega arith)))

    counted : graph_count g ≡ n
    counted = graph-count g ∙ fan-at 255 (omega arith) ∙ all-bytes n (omega arith)

    byte-there : (k : ℕ) → k < n → first_byte w g k ≡ get_or (row_at rs k).id 0 0
    byte-there k l = sym (first_of-id w g k some_bytes) ∙ ap (λ (x : List ℕ). get_or x 0 0) (id-there k l)

    at-most-same : (x m : ℕ) → m ≤ n → at_most w g x m ≡ at_most_in rs x m
    unfolding at_most at_most_in
    at-most-same x zero l = refl
    at-most-same x (suc m) l =
        ap (λ (y : ℕ). y + cond (leb (first_byte w g m) x) 1 0) (at-most-same x m (omega arith))
        ∙ ap (λ (y : ℕ). at_most_in rs x m + cond (leb y x) 1 0) (byte-there m (omega arith))

    fan-ok : (k : ℕ) → k ≤ 256 → fan_ok w g k ≡ true
    unfolding fan_ok
    fan-ok zero l = refl
    fan-ok (suc k) l =
        guard_of (fan_ok w g k) (eqb (fan_at g k) (at_most w g k (graph_count g))) (fan-ok k (omega arith))
        (eq-eqb (fan_at g k) (at_most w g k (graph_count g)) (fan-at k (omega arith) ∙ sym (ap (at_most w g k) counted ∙ at-most-same k n (omega arith))))

    ids-rise : (m : ℕ) → m ≤ n → rising (graph_ids w g) m ≡ true
    unfolding rising rises_at
    ids-rise zero l = refl
    ids-rise (suc zero) l = refl
    ids-rise (suc (suc m)) l =
        guard_of (rising (graph_ids w g) (suc m)) (lt_id (id_of (graph_ids w g) m) (id_of (graph_ids w g) (suc m))) (ids-rise (suc m) (omega arith))
        (ap (λ (x : Id). lt_id x (id_of (graph_ids w g) (suc m))) (id-there m (omega arith))
        ∙ ap (λ (x : Id). lt_id (row_at rs m).id x) (id-there (suc m) (omega arith))
        ∙ R.rises m (omega arith))

    ok : graph_ok w g ≡ true
    unfolding graph_ok
    ok =
        guard_of (table_ok w g) (chunks_ok w g) c.table
        (chunks_ok_lem w g c.fan_size (c.ids-size ∙ ap (λ (x : ℕ). w * x) (sym counted)) (c.rows-size ∙ ap (λ (x : ℕ). row_size w * x) (sym counted))
        (omega (arith, c.edge_size)) (fan-ok 256 (omega arith)) (subst (λ (x : ℕ). rising (graph_ids w g) x ≡ true) (sym counted) (ids-rise n (omega arith))))

    -- ---- the rows

    before-few : (k : ℕ) → k < n → edges_before rs k ≤ E
    before-few k l = few-before rs k l

    module _ (p : ℕ) (l : p < n) where
      e : ℕ
      e = edges_before rs p

      e-few : e ≤ 268435456
      unfolding e
      e-few = omega (arith, before-few p l, R.edges_few)

      row : (l' : Layout) → l'.rows ≡ chunk_start g CDAT → row_in w g l' p ≡ row_bytes e (row_at rs p)
      unfolding e
      row l' el = row-there l' el p l

      third : (l' : Layout) → l'.rows ≡ chunk_start g CDAT → u32_at (row_in w g l' p) (w + 8) ≡ (row_at rs p).level * 4 + (row_at rs p).seconds / 4294967296
      third l' el = ap (λ (x : List ℕ). u32_at x (w + 8)) (row l' el) ∙ row-third w e n (row_at rs p) (R.each p l) R.rows_few e-few

      stated : (l' : Layout) → l'.rows ≡ chunk_start g CDAT → stated_level w g l' p ≡ (row_at rs p).level
      unfolding stated_level
      stated l' el = let s = (R.each p l).seconds-fit in omega (arith, third l' el)

      rows' : (layout_of w g).rows ≡ chunk_start g CDAT
      unfolding layout_of
      rows' = refl

      rows'' : (places_of g).rows ≡ chunk_start g CDAT
      unfolding places_of
      rows'' = refl

      stated-some : stated_level w g (places_of g) p ≡ 0 → ⊥
      stated-some z = let s = (R.each p l).level-some in omega (arith, stated (places_of g) rows'')

      seconds-read : graph_seconds w g p ≡ pos (row_at rs p).seconds
      unfolding graph_seconds seconds_in
      seconds-read =
          let t = third (layout_of w g) rows' in
          let u : u32_at (row_in w g (layout_of w g) p) (w + 12) ≡ (row_at rs p).seconds % 4294967296 =
          ap (λ (x : List ℕ). u32_at x (w + 12)) (row (layout_of w g) rows') ∙ row-fourth w e n (row_at rs p) (R.each p l) R.rows_few e-few in
          let s = (R.each p l).seconds-fit in
          ap pos (let y : u32_at (row_in w g (layout_of w g) p) (w + 8) % 4 * 4294967296 + u32_at (row_in w g (layout_of w g) p) (w + 12) ≡ (row_at rs p).seconds = omega (arith, t, u) in y)

      counts' : (layout_of w g).count ≡ n
      unfolding layout_of
      counts' = counted

      there' : (i : ℕ) → edges_before rs p + i < E → get_or (edges_in rs) (edges_before rs p + i) 0 < 4294967296 → edge_in g (layout_of w g) (e + i) ≡ get_or (edges_in rs) (edges_before rs p + i) 0
      unfolding e
      there' i d b = edge-there (edges_before rs p + i) d b

      inside' : (i : ℕ) → edges_before rs p + i < E → e + i < (layout_of w g).edges
      unfolding e layout_of
      inside' i d = omega (arith, c.edge_size)

      parents-there : graph_parents w g p ≡ Some (row_at rs p).parents
      unfolding graph_parents
      parents-there =
          let h = R.each p l in
          let k : (layout_of w g).count ≡ n = counts' in
          parents-read w g (layout_of w g) (omega (arith, k, R.rows_few)) (row_at rs p).parents p e
          (ap (λ (x : List ℕ). u32_at x w) (row (layout_of w g) rows') ∙ row_first w e n (row_at rs p) h R.rows_few e-few)
          (ap (λ (x : List ℕ). u32_at x (w + 4)) (row (layout_of w g) rows') ∙ row-second w e n (row_at rs p) h R.rows_few e-few)
          h.few (λ i d. omega (arith, k, h.inside i d)) e-few
          (λ i d.
          let t = edges-there rs p i l d in
          let b : get_or (edges_in rs) (edges_before rs p + i) 0 < 4294967296 = omega (arith, t.0, edges-low n R.rows_few (row_at rs p).parents i h.inside d) in
          (there' i t.1 b ∙ t.0, inside' i t.1))

    -- no row states level 0, so the file's levels are used
    used : (layout_of w g).levels ≡ true
    unfolding layout_of
    used = ap (levelled w g (places_of g)) counted ∙ levels-all w g (places_of g) n (λ p h. stated-some p h)

    level-read : (p : ℕ) → p < n → generation w g p ≡ (row_at rs p).level
    unfolding generation
    level-read p h = level-used w g (layout_of w g) p used ∙ stated p h (layout_of w g) (rows' p h)

    pub read_back : (z : ℕ) → z ≡ length g → z ≡ file_length w n E → ReadBack v w rs g
    unfolding graph_id
    read_back z a b =
        record {
          head = c.head;
          ok = ok;
          count = counted;
          rows = λ p l. record { id = id-there p l; parents = parents-there p l; level = level-read p l; seconds = seconds-read p l };
          long = sym a ∙ b;
        }

-- ---- the written file

module _ (v w : ℕ) (some_bytes : 0 < w) (few_bytes : w ≤ 32) (rs : List Row) (end : List ℕ) (R : RowsRight w rs) (end-long : length end ≡ w) where
  with-three : eqb (length (edges_in rs)) 0 ≡ true → ReadBack v w rs (file_with v w rs end)
  unfolding file_with front_of file_length three_chunks
  with-three t =
      let z : length (edges_in rs) ≡ 0 = eqb-true (length (edges_in rs)) 0 t in
      let front = three_chunks v w (length rs) in
      let rest = body v w some_bytes rs end front 56 R end-long refl in
      let b = body-long v w some_bytes rs end front 56 R end-long refl in
      let f : front_of v w (length rs) (length (edges_in rs)) ≡ three_chunks v w (length rs) = rw t in
      subst (λ (x : List ℕ). ReadBack v w rs (x ++ rest)) (sym f)
      (read_back v w some_bytes rs end front 56 R end-long refl
      (subst (λ (x : ℕ). Chunks v w (front ++ rest) 56 (length rs) x) (sym z)
      (three v w (length rs) rest few_bytes R.rows_few (omega (arith, b, z))))
      (rows_end w 56 (length rs) + w)
      (sym (length-append front rest ∙ (let y : 56 + length rest ≡ rows_end w 56 (length rs) + w = omega (arith, b, z) in y)))
      (rw t))

  with-four : eqb (length (edges_in rs)) 0 ≡ false → ReadBack v w rs (file_with v w rs end)
  unfolding file_with front_of file_length four_chunks
  with-four t =
      let front = four_chunks v w (length rs) (length (edges_in rs)) in
      let rest = body v w some_bytes rs end front 68 R end-long refl in
      let b = body-long v w some_bytes rs end front 68 R end-long refl in
      let f : front_of v w (length rs) (length (edges_in rs)) ≡ four_chunks v w (length rs) (length (edges_in rs)) = rw t in
      subst (λ (x : List ℕ). ReadBack v w rs (x ++ rest)) (sym f)
      (read_back v w some_bytes rs end front 68 R end-long refl
      (four v w (length rs) (length (edges_in rs)) rest few_bytes R.rows_few R.edges_few b)
      (rows_end w 68 (length rs) + 4 * length (edges_in rs) + w)
      (sym (length-append front rest ∙ (let y : 68 + length rest ≡ rows_end w 68 (length rs) + 4 * length (edges_in rs) + w = omega (arith, b) in y)))
      (rw t))

  pub file-with : ReadBack v w rs (file_with v w rs end)
  file-with = by_cases (eqb (length (edges_in rs)) 0) with-three with-four

-- our reader takes each written file, and finds each row's id, parents, level and seconds
pub graph-file : (v w : ℕ) (sum : List ℕ → List ℕ) (rs : List Row) → 0 < w → w ≤ 32 → RowsRight w rs → ((b : List ℕ) → length (sum b) ≡ w) → ReadBack v w rs (graph_file v w sum rs)
unfolding graph_file
graph-file v w sum rs a b R s = file-with v w a b rs (sum (file_with v w rs [])) R (s (file_with v w rs []))
