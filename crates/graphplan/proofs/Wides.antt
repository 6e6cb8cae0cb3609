-- Ids and rows of a store are of one width each: ids stand whole in a good store, and a readable body has a tree line. Assumes nothing.
use Rattle.std.specs.Prelude.{None, Option, Some, is_some as is_there}
use mathlib.Core.Path.{◌≡◌, refl, sym, ◌∙◌, ap}
use mathlib.Core.Bool.{true}
use mathlib.Core.List.{List}
use Prim.Native.Nat.{ℕ, ◌+◌, ◌≤◌, ◌<◌}
use native.Mathlib.Omega.{arith}
use lib.ListN.{length}
use Rattle.hash.specs.Bytes.{Id}
use Rattle.hash.proofs.Tests.{clash, some_in}
use Rattle.idlist.proofs.Place.{length_id_of}
use Rattle.object.specs.Header.{header, id_line, tree_word, with_tree}
use Rattle.object.specs.Ids.{id_room, padded, id_in}
use Rattle.object.specs.Read.{tree_id_at, id_read}
use Rattle.object.specs.declared.ObjectId.{ObjectId}
use Rattle.object.proofs.Lines.{id_line-some}
use Rattle.object.proofs.IdBytes.{id_in_lem}
use Rattle.odb.specs.Store.{entry_ids, standing_entries}
use Rattle.odb.specs.Lookup.{entry_id, entry_body}
use Rattle.odb.proofs.Store.{good, standing_stand}
use Rattle.commitgraph.specs.Graph.{row_size}
use Rattle.graphfile.specs.GraphFile.{Row, row_at, ids_in, data_from, row_bytes}
use Rattle.graphfile.proofs.Pieces.{Wide, nth, length_ids, nth_ids, length_data, nth_data, edges_before}
use Rattle.graphfile.proofs.Read.{length_row}
use Rattle.levels.proofs.Rules.{all-at}
use Rattle.graphplan.specs.StoreRows.{Writable, tree_of, id_or, readable_body, fit_time, all_readable, all_in_time, row_of, rows_of}
use Rattle.graphplan.specs.Entries.{head_read}
use Rattle.graphplan.specs.declared.entry.Head.{Head}
use Rattle.graphplan.proofs.Heads.{HeadTold, head-told, head-some}
use Rattle.graphplan.proofs.RowLaws.{length_rows, row-at}
use Rattle.graphplan.proofs.Fans.{entry-is}

-- a good tree line
tree-line : (w : ℕ) (b : List ℕ) → (header w b).tree ≡ true → (t : Id × List ℕ) × (id_line w tree_word b ≡ Some t)
unfolding header
tree-line w b e = go (id_line w tree_word b) refl e
  where
    go : (o : Option (Id × List ℕ)) → id_line w tree_word b ≡ o → (with_tree w b o).tree ≡ true → (t : Id × List ℕ) × (id_line w tree_word b ≡ Some t)
    go None d h = clash h refl
    go (Some t) d h = (t, d)

pub tree-long : (w : ℕ) (b : List ℕ) → (header w b).tree ≡ true → length (tree_of w b) ≡ w
unfolding tree_of
tree-long w b e = let t = tree-line w b e in ap (λ (o : Option (Id × List ℕ)). length (id_or o)) t.1 ∙ (id_line-some w tree_word b t.0 t.1).width

-- the id that is read there
pub tree-read : (w : ℕ) (b : List ℕ) → w ≤ id_room → (header w b).tree ≡ true → {x : ObjectId} → tree_id_at w b 0 ≡ Some x → id_in w x.bytes ≡ tree_of w b
unfolding tree_of tree_id_at
tree-read w b small e {x} f =
    let t = tree-line w b e in
    let read : Some x ≡ Some (record { bytes = padded t.0.0 }) = sym f ∙ ap id_read t.1 in
    ap (λ (y : ObjectId). id_in w y.bytes) (some_in read)
    ∙ id_in_lem w t.0.0 (id_line-some w tree_word b t.0 t.1).width small
    ∙ sym (ap id_or t.1)

pub tree-there : (w : ℕ) (b : List ℕ) → (header w b).tree ≡ true → is_there (tree_id_at w b 0) ≡ true
unfolding tree_id_at
tree-there w b e = let t = tree-line w b e in ap (λ (o : Option (Id × List ℕ)). is_there (id_read o)) t.1

module _ (w : ℕ) (b : List ℕ) (n : ℕ) (W : Writable w b n) where
  pub readable-at : (k : ℕ) → k < n → readable_body w (entry_body w b k) ≡ true
  unfolding all_readable
  readable-at k h = all-at (λ k. readable_body w (entry_body w b k)) n k W.readable h

  pub in-time-at : (k : ℕ) → k < n → fit_time w (entry_body w b k) ≡ true
  unfolding all_in_time
  in-time-at k h = all-at (λ k. fit_time w (entry_body w b k)) n k W.in_time h

  -- what the head of entry k tells
  pub head_at : (k : ℕ) → k < n → (h : Head) × HeadTold w (entry_body w b k) h
  head_at k h = go (head_read w (entry_body w b k)) refl
    where
      go : (r : Option Head) → head_read w (entry_body w b k) ≡ r → (h : Head) × HeadTold w (entry_body w b k) h
      go (Some h) e = (h, head-told w (entry_body w b k) h e)
      go None e = absurd (head-some w (entry_body w b k) (readable-at k h) e)

  pub id-long : (k : ℕ) → k < n → length (entry_id w b k) ≡ w
  unfolding entry_ids
  id-long k h =
      ap length (entry-is w b n W k h)
      ∙ length_id_of (entry_ids w b) (standing_entries w b) k (standing_stand w b (good w b W.ok).stands) (omega (arith, W.many))

  pub row-tree-long : (k : ℕ) → k < n → length (row_of w b k).tree ≡ w
  unfolding row_of
  row-tree-long k h = tree-long w (entry_body w b k) (head_at k h).1.tree

  many : length (rows_of w b) ≡ n
  many = length_rows w b ∙ sym W.many

  pub wide-ids : Wide w (ids_in (rows_of w b))
  unfolding row_of
  wide-ids =
      record {
        each = λ k l.
            let h : k < n = omega (arith, length_ids (rows_of w b), many) in
            ap length (nth_ids (rows_of w b) k (omega (arith, many))) ∙ ap (λ (r : Row). length r.id) (row-at w b k (omega (arith, W.many))) ∙ id-long k h;
      }

  pub id-part : (k : ℕ) → k < n → entry_id w b k ≡ nth (ids_in (rows_of w b)) k
  unfolding row_of
  id-part k h = sym (nth_ids (rows_of w b) k (omega (arith, many)) ∙ ap (λ (r : Row). r.id) (row-at w b k (omega (arith, W.many))))

  pub wide-data : Wide (row_size w) (data_from 0 (rows_of w b))
  wide-data =
      record {
        each = λ k l.
            let h : k < n = omega (arith, length_data 0 (rows_of w b), many) in
            ap length (nth_data 0 (rows_of w b) k (omega (arith, many)))
            ∙ length_row w (0 + edges_before (rows_of w b) k) (row_at (rows_of w b) k) (ap (λ (r : Row). length r.tree) (row-at w b k (omega (arith, W.many))) ∙ row-tree-long k h);
      }

  pub data-part : (k : ℕ) → k < n → row_bytes (edges_before (rows_of w b) k) (row_of w b k) ≡ nth (data_from 0 (rows_of w b)) k
  data-part k h =
      sym (nth_data 0 (rows_of w b) k (omega (arith, many))
      ∙ ap (λ (x : ℕ). row_bytes x (row_at (rows_of w b) k)) (let z : 0 + edges_before (rows_of w b) k ≡ edges_before (rows_of w b) k = omega arith in z)
      ∙ ap (row_bytes (edges_before (rows_of w b) k)) (row-at w b k (omega (arith, W.many))))

  pub ids-many : length (ids_in (rows_of w b)) ≡ n
  ids-many = length_ids (rows_of w b) ∙ many

  pub data-many : length (data_from 0 (rows_of w b)) ≡ n
  data-many = length_data 0 (rows_of w b) ∙ many
