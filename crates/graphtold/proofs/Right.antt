-- The rows of a store that is not refused are right, so our reader takes its file and finds each row: ids rise in a good store, a readable commit has at most
-- 256 parents, each of them an entry, and a level is at most the number of entries. Assumes nothing.
use Rattle.std.specs.Prelude.{None, Option, Some}
use mathlib.Core.Path.{◌≡◌, refl, sym, ◌∙◌, ap, subst}
use mathlib.Core.Bool.{Bool, true, false, cond}
use mathlib.Core.List.{List, []}
use Prim.Native.Nat.{ℕ, suc, ◌+◌, ◌*◌, ◌≤◌, ◌<◌}
use native.Mathlib.Omega.{arith}
use lib.ListN.{length, get_or}
use lib.Dec.{ltb}
use lib.IntN.{ℤ, pos, negsuc, nat_abs}
use borrow.Author.Tests.{ltb-true}
use Rattle.hash.specs.Bytes.{Id, lt_id, if_some, width_of}
use Rattle.hash.specs.declared.Kind.{Kind}
use Rattle.hash.proofs.Bytes.{small_at}
use Rattle.hash.proofs.Tests.{clash}
use Rattle.hash.proofs.Widths.{width_least, width-most}
use Rattle.idlist.specs.IdList.{id_of, rises_at, rising}
use Rattle.idlist.proofs.Rising.{rising-less, rising-first}
use Rattle.object.specs.Header.{seconds_of}
use Rattle.odb.specs.Store.{start, entry_size, entry_ids, standing_entries}
use Rattle.odb.specs.Lookup.{entry_id, entry_body}
use Rattle.odb.proofs.Nth.{own-id}
use Rattle.commitgraph.specs.Graph.{hash_version}
use Rattle.commitid.specs.Name.{digest_of}
use Rattle.commitid.proofs.Widths.{length_digest}
use Rattle.levels.specs.Levels.{Graph, level_of}
use Rattle.levels.specs.StoreGraph.{lines_in, entry_of, graph_in}
use Rattle.levels.proofs.Rules.{of_fit, from_some}
use Rattle.levels.proofs.Facts.{levels-low}
use Rattle.levels.proofs.Lines.{lines_few, count_none}
use Rattle.levels.proofs.Stored.{good-rises}
use Rattle.graphfile.specs.GraphFile.{Row, row_at, RowRight, RowsRight, ReadBack}
use Rattle.graphfile.proofs.Read.{graph-file}
use Rattle.graphplan.specs.StoreRows.{Writable, row_of, rows_of, seconds_size, fit_seconds, fit_time, most_seconds}
use Rattle.graphplan.specs.Refusing.{refusal_for}
use Rattle.graphwrite.specs.Writing.{Bytes, file_of}
use Rattle.graphplan.proofs.Fans.{entry-is}
use Rattle.graphplan.proofs.Wides.{head_at, in-time-at, id-long, row-tree-long}
use Rattle.graphplan.proofs.RowLaws.{length_rows, row-at, length_numbers, number_at, edges-all, edges_few}
use Rattle.graphplan.proofs.Planning.{few-entries, accepted}
use Rattle.graphtold.proofs.Counting.{fit-rule}

-- ---- seconds

pub fit_pos : (s : ℤ) → fit_seconds s ≡ true → (s ≡ pos (nat_abs s)) × (nat_abs s < most_seconds)
unfolding fit_seconds
fit_pos (pos a) e = (refl, ltb-true a most_seconds (past (ltb a 0) (ltb a most_seconds) e))
  where
    past : (t u : Bool) → cond t false u ≡ true → u ≡ true
    past true u d = clash d refl
    past false u d = d
fit_pos (negsuc a) e = clash e refl

-- seconds in time
pub record InTime (w : ℕ) (b : List ℕ) : Type 0 where
  pub is : seconds_of w b ≡ Some (pos (seconds_size w b))
  pub low : seconds_size w b < most_seconds

pub in_time : (w : ℕ) (b : List ℕ) → fit_time w b ≡ true → InTime w b
unfolding fit_time seconds_size
in_time w b e = go (seconds_of w b) refl e
  where
    go : (o : Option ℤ) → seconds_of w b ≡ o → if_some o false fit_seconds ≡ true → InTime w b
    go None d h = clash h refl
    go (Some s) d h =
        let p = fit_pos s h in
        let z : seconds_size w b ≡ nat_abs s = ap (λ (o : Option ℤ). if_some o 0 nat_abs) d in
        record { is = d ∙ ap Some (p.0 ∙ ap pos (sym z)); low = omega (arith, p.1) }

-- ---- one row

module _ (w : ℕ) (b : List ℕ) (n : ℕ) (S : Bytes b) (W : Writable w b n) (wide : 20 ≤ w) where
  abbrev g : Graph
  g = graph_in w b

  stands : (k : ℕ) → k < n → k < standing_entries w b
  stands k h = omega (arith, W.many)

  few : n ≤ 699050
  few = omega (arith, W.many, few-entries w b wide W.small)

  -- each parent is an entry
  pub parent-inside : (k j : ℕ) → k < n → j < length (lines_in w (entry_body w b k)).ids → entry_of w b (standing_entries w b) (get_or (lines_in w (entry_body w b k)).ids j []) < standing_entries w b
  parent-inside k j h l =
      (of_fit g W.fits).sound.present k j (stands k h) (omega (arith, count_none w (entry_body w b k) (head_at w b n W k h).1.more))

  byte_low : (k : ℕ) → k < n → get_or (entry_id w b k) 0 0 ≤ 255
  byte_low k h =
      omega (arith, ap (λ (x : Id). get_or x 0 0) (own-id w b k (stands k h)), small_at b (start b + entry_size w * k) w S.each 0)

  level-some : (k : ℕ) → k < n → 0 < level_of g k
  level-some k h = omega (arith, (fit-rule g W.fits).is k (stands k h), from_some g (level_of g) k)

  level-low : (k : ℕ) → level_of g k ≤ n
  level-low k = omega (arith, levels-low g k, W.many)

  pub row-right : (k : ℕ) → k < n → RowRight w n (row_of w b k)
  unfolding row_of
  row-right k h =
      let ids = (lines_in w (entry_body w b k)).ids in
      let c = length_numbers w b ids in
      record {
        id-long = id-long w b n W k h;
        id_byte = byte_low k h;
        tree-long = row-tree-long w b n W k h;
        few = omega (arith, c, lines_few w (entry_body w b k));
        inside = λ j l.
            let i : j < length ids = omega (arith, c) in
            omega (arith, number_at w b ids j i, parent-inside k j h i, W.many);
        level-some = level-some k h;
        level-fits = omega (arith, level-low k, few);
        seconds-fit = (in_time w (entry_body w b k) (in-time-at w b n W k h)).low;
      }

  -- ---- all rows

  many : length (rows_of w b) ≡ n
  many = length_rows w b ∙ sym W.many

  row_is : (k : ℕ) → k < n → row_at (rows_of w b) k ≡ row_of w b k
  row_is k h = row-at w b k (stands k h)

  id-is : (k : ℕ) → k < n → (row_at (rows_of w b) k).id ≡ id_of (entry_ids w b) k
  unfolding row_of
  id-is k h = ap (λ (r : Row). r.id) (row_is k h) ∙ entry-is w b n W k h

  rises : (k : ℕ) → suc k < n → lt_id (row_at (rows_of w b) k).id (row_at (rows_of w b) (suc k)).id ≡ true
  unfolding rises_at
  rises k h =
      let r : rising (entry_ids w b) (suc (suc k)) ≡ true = rising-first (entry_ids w b) (suc (suc k)) (standing_entries w b) (omega (arith, W.many)) (good-rises w b W.ok) in
      ap (λ (x : Id). lt_id x (row_at (rows_of w b) (suc k)).id) (id-is k (omega arith))
      ∙ ap (λ (x : Id). lt_id (id_of (entry_ids w b) k) x) (id-is (suc k) h)
      ∙ (rising-less (entry_ids w b) (suc k) r).1

  pub rows_right : RowsRight w (rows_of w b)
  rows_right =
      record {
        each = λ k h.
            let l : k < n = omega (arith, many) in
            subst (λ (m : ℕ). RowRight w m (row_at (rows_of w b) k)) (sym many) (subst (RowRight w n) (sym (row_is k l)) (row-right k l));
        rises = λ k h. rises k (omega (arith, many));
        rows_few = omega (arith, many, few);
        edges_few = omega (arith, edges-all w b, edges_few w b (standing_entries w b), W.many, few);
      }

-- "Our reader must accept each such file": it takes the file, and finds each row's id, parents, level and seconds
pub read_back : (kind : Kind) (b : List ℕ) (lent : ℕ) → Bytes b → refusal_for (width_of kind) b lent ≡ None → ReadBack (hash_version kind) (width_of kind) (rows_of (width_of kind) b) (file_of kind b)
unfolding file_of
read_back kind b lent S e =
    let w = width_of kind in
    graph-file (hash_version kind) w (digest_of kind) (rows_of w b) (omega (arith, width_least kind)) (width-most kind)
    (rows_right w b (standing_entries w b) S (accepted w b lent e) (width_least kind)) (length_digest kind)
