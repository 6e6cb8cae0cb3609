-- Laws of rows: a row of the walk's world is a row of the file, its parents those at the positions that the file lists, each with the
-- seconds of its own row. Assumes nothing.
use Rattle.std.specs.Prelude.{None, Option, Some}
use mathlib.Core.Path.{◌≡◌, refl, sym, ◌∙◌, ap, subst}
use Prim.Native.Nat.{ℕ, zero, suc, ◌+◌, ◌*◌, ◌≤◌, ◌<◌}
use mathlib.Core.Bool.{true}
use mathlib.Core.List.{List, [], ◌∷◌, map}
use native.Mathlib.Omega.{arith}
use native.Mathlib.Nat.{le_of_suc-le-suc, not-suc-le-zero}
use lib.ListN.{length, get_or, length-map}
use lib.IntN.{ℤ, pos}
use Rattle.hash.specs.Bytes.{Id, if_some}
use Rattle.hash.proofs.Bytes.{length_at}
use Rattle.hash.proofs.Widths.{apart}
use Rattle.idlist.specs.IdList.{id_of}
use Rattle.commitgraph.specs.Graph.{chunk_start, OIDL, graph_ok, graph_count, graph_ids, graph_id, graph_seconds, generation, graph_parents, layout_of, id_in, seconds_in, parents_in, parent_in, most_parents, parent_list_of}
use Rattle.commitgraph.specs.declared.Layout.{Layout}
use Rattle.commitgraph.specs.declared.Level.{Level}
use Rattle.commitgraph.proofs.LayoutRight.{right}
use Rattle.commitgraph.proofs.Edges.{good-list, parent_listed, parents-few, parents-at-below}
use Rattle.walk.specs.Lookup.{corrupt, row, row_at}
use Rattle.reading.specs.Row.{row_with, level_of, row_read_of, row_parent}
use Rattle.reading.specs.declared.row.RowRead.{RowRead}

-- ---- the parents of a row

-- a parent of the world's row at a position
abbrev pub parent_at : ℕ → List ℕ → ℕ → Id × ℤ
parent_at w g q = (graph_id w g q, graph_seconds w g q)

pub record RowParts (w : ℕ) (g : List ℕ) (p : ℕ) (ps : List (Id × ℤ)) (v : ℕ) (t : ℤ) : Type 0 where
  pub places : List ℕ
  pub listed : graph_parents w g p ≡ Some places
  pub same : ps ≡ map (parent_at w g) places
  pub level : v ≡ generation w g p
  pub seconds : t ≡ graph_seconds w g p

pub row-parts : (w : ℕ) (g : List ℕ) (p : ℕ) (ps : List (Id × ℤ)) (v : ℕ) (t : ℤ) → row_at w g p ≡ row ps v t → RowParts w g p ps v t
unfolding row_at
row-parts w g p ps v t e = go (graph_parents w g p) refl e
  where
    go : (o : Option (List ℕ)) → graph_parents w g p ≡ o → if_some o corrupt (λ qs. row (map (parent_at w g) qs) (generation w g p) (graph_seconds w g p)) ≡ row ps v t → RowParts w g p ps v t
    go None k e' = let z : ◌≡◌ {A = ℕ} 0 1 = cc in absurd (omega arith)
    go (Some qs) k e' = record { places = qs; listed = k; same = cc; level = cc; seconds = cc }

-- an element of a list that was mapped
mapped : {A B : Type 0} (f : A → B) (l : List A) (k : ℕ) (d : A) (e : B) → k < length l → get_or (map f l) k e ≡ f (get_or l k d)
mapped f [] k d e h = absurd (not-suc-le-zero h)
mapped f (x ∷ xs) zero d e h = refl
mapped f (x ∷ xs) (suc k) d e h = mapped f xs k d e (le_of_suc-le-suc h)

module _ (w : ℕ) (g : List ℕ) (p : ℕ) (ps : List (Id × ℤ)) (v : ℕ) (t : ℤ) (e : row_at w g p ≡ row ps v t) where
  parts : RowParts w g p ps v t
  parts = row-parts w g p ps v t e

  many : length ps ≡ length parts.places
  many = ap length parts.same ∙ length-map parts.places (parent_at w g)

  pub row-few : length ps ≤ most_parents
  row-few = omega (arith, many, parents-few w g p parts.places parts.listed)

  -- parent k, from the position that the file lists
  row-parent : (k : ℕ) → k < length ps → get_or ps k ([], pos 0) ≡ parent_at w g (get_or parts.places k 0)
  row-parent k h =
      ap (λ (l : List (Id × ℤ)). get_or l k ([], pos 0)) parts.same ∙ mapped (parent_at w g) parts.places k 0 ([], pos 0) (omega (arith, many))

  -- the id of a parent has an id's width
  pub row-width : graph_ok w g ≡ true → (k : ℕ) → k < length ps → length (get_or ps k ([], pos 0)).0 ≡ w
  unfolding graph_id graph_ids id_of
  row-width ok k h =
      let b : get_or parts.places k 0 < graph_count g = parents-at-below w g p parts.places parts.listed k (omega (arith, many)) in
      ap (λ (q : Id × ℤ). length q.0) (row-parent k h) ∙ length_at g (chunk_start g OIDL + w * get_or parts.places k 0) w (omega (arith, (right w g ok).places.ids, apart w b))

  -- a position that was read as parent k is its
  module _ {l : Layout} {k q : ℕ} (own : l ≡ layout_of w g) (read : q ≡ parent_in w g l p k) where
    pub parent-there : k < length ps → (id_in w g l q, seconds_in w g l q) ≡ get_or ps k ([], pos 0)
    unfolding graph_parents graph_id graph_ids id_of graph_seconds id_in layout_of
    parent-there h =
        let n = parent_listed w g l p k read parts.places (ap (λ (m : Layout). parents_in w g m p) own ∙ parts.listed) (omega (arith, many)) in
        ap (λ (m : Layout). (id_in w g m q, seconds_in w g m q)) own ∙ ap (parent_at w g) n ∙ sym (row-parent k h)

module _ (w : ℕ) (g : List ℕ) (l : Layout) (p k : ℕ) where
  pub parent-by-place : {q : ℕ} {y : Id} → q ≡ parent_in w g l p k → y ≡ id_in w g l q → y ≡ row_parent w g l p k
  unfolding row_parent
  parent-by-place read e = e ∙ ap (id_in w g l) read

  -- of a good list it is the id at the position that the list has
  pub row-parent-listed : (ps : List ℕ) → parents_in w g l p ≡ Some ps → k < length ps → row_parent w g l p k ≡ id_in w g l (get_or ps k 0)
  unfolding row_parent
  row-parent-listed ps e h = ap (id_in w g l) (parent_listed w g l p k refl ps e h)

-- of a row of the walk's world
pub row_parent-right : (w : ℕ) (g : List ℕ) {l : Layout} (p k : ℕ) → l ≡ layout_of w g → (ps : List (Id × ℤ)) (v : ℕ) (t : ℤ) → row_at w g p ≡ row ps v t → k < length ps
    → row_parent w g l p k ≡ (get_or ps k ([], pos 0)).0
unfolding row_parent
row_parent-right w g p k own ps v t f h = ap (λ (a : Id × ℤ). a.0) (parent-there w g p ps v t f own refl h)

-- ---- one row

-- a parent list that was read
pub list-good : (o : Option (List ℕ)) (n : ℕ) → Some n ≡ parent_list_of o → (ps : List ℕ) × (o ≡ Some ps) × (n ≡ length ps)
list-good None n e = let z : ◌≡◌ {A = ℕ} 0 1 = cc in absurd (omega arith)
list-good (Some ps) n e = (ps, refl, cc)

pub list_broken : (o : Option (List ℕ)) → None ≡ parent_list_of o → o ≡ None
list_broken None e = refl
list_broken (Some ps) e = let z : ◌≡◌ {A = ℕ} 0 1 = cc in absurd (omega arith)

pub row_read : {n : ℕ} {v : Level} (w : Level) (o : Option (List ℕ)) → Some n ≡ parent_list_of o → v.0 ≡ w.0 → Some (row_with n v) ≡ row_read_of w o
row_read {n} {v} w o e f =
    let r = list-good o n e in
    ap (λ (m : ℕ). Some (row_with m v)) r.2 ∙ ap (λ (u : Level). Some (row_with (length r.0) u)) same ∙ ap (row_read_of w) (sym r.1)
  where
    same : v ≡ w
    same = λ i. record { 0 = f i }

pub row-corrupt : (w : Level) (o : Option (List ℕ)) → None ≡ parent_list_of o → None ≡ row_read_of w o
row-corrupt w o e = ap (row_read_of w) (sym (list_broken o e))

-- two rows that are one
row-same : {m n : ℕ} {u v : Level} → ◌≡◌ {A = Option RowRead} (Some (row_with m u)) (Some (row_with n v)) → (m ≡ n) × (u ≡ v)
row-same {m} {n} {u} {v} e = (ap (λ (o : Option RowRead). if_some o m (λ r. r.parents)) e, ap (λ (o : Option RowRead). if_some o u (λ r. r.level)) e)

-- a count of a row's parents, 0 where the list is corrupt, is at most 256 on any bytes
pub list-few : (w : ℕ) (g : List ℕ) (l : Layout) (p : ℕ) (count : Option (List ℕ) → ℕ) → count None ≡ 0 → ((ps : List ℕ) → count (Some ps) ≡ length ps) → count (parents_in w g l p) ≤ most_parents
list-few w g l p count z n = go (parents_in w g l p) refl
  where
    go : (o : Option (List ℕ)) → parents_in w g l p ≡ o → count o ≤ most_parents
    go None e = omega (arith, z)
    go (Some ps) e = omega (arith, n ps, (good-list w g l p ps e).few)

-- the row at position p of the file g has n parents and the level v
pub record RowIs (w : ℕ) (g : List ℕ) (p n : ℕ) (v : Level) : Type 0 where
  pub parents : List (Id × ℤ)
  pub seconds : ℤ
  pub is : row_at w g p ≡ row parents v.0 seconds
  pub count : n ≡ length parents

module _ (w : ℕ) (g : List ℕ) (l : Layout) (p : ℕ) where
  -- a row that was read by the file's own layout is the walk's
  pub row_is : {n : ℕ} {v : Level} {r : Option RowRead} → l ≡ layout_of w g → r ≡ row_read_of (level_of w g l p) (parents_in w g l p) → r ≡ Some (row_with n v) → RowIs w g p n v
  unfolding row_at generation graph_parents
  row_is {n} {v} {r} own e f =
      go (graph_parents w g p) refl (sym f ∙ e ∙ ap (λ (m : Layout). row_read_of (level_of w g m p) (parents_in w g m p)) own)
    where
      go : (o : Option (List ℕ)) → graph_parents w g p ≡ o → Some (row_with n v) ≡ row_read_of (level_of w g (layout_of w g) p) o → RowIs w g p n v
      go None k h = let z : ◌≡◌ {A = ℕ} 0 1 = cc in absurd (omega arith)
      go (Some qs) k h =
          let same : v ≡ level_of w g (layout_of w g) p = (row-same h).1 in
          record {
            parents = map (parent_at w g) qs;
            seconds = graph_seconds w g p;
            is = rw k (ap (λ (c : ℕ). row (map (parent_at w g) qs) c (graph_seconds w g p)) (sym (ap (λ (u : Level). u.0) same)));
            count = (row-same h).0 ∙ sym (length-map qs (parent_at w g));
          }

  pub row-torn : {r : Option RowRead} → l ≡ layout_of w g → r ≡ row_read_of (level_of w g l p) (parents_in w g l p) → r ≡ None → row_at w g p ≡ corrupt
  unfolding row_at graph_parents
  row-torn {r} own e f = go (graph_parents w g p) refl (sym f ∙ e ∙ ap (λ (m : Layout). row_read_of (level_of w g m p) (parents_in w g m p)) own)
    where
      go : (o : Option (List ℕ)) → graph_parents w g p ≡ o → None ≡ row_read_of (level_of w g (layout_of w g) p) o → row_at w g p ≡ corrupt
      go None k h = rw k
      go (Some qs) k h = let z : ◌≡◌ {A = ℕ} 0 1 = cc in absurd (omega arith)

  -- on any bytes it has at most 256 parents
  pub row-counted : {n : ℕ} {v : Level} {r : Option RowRead} → r ≡ row_read_of (level_of w g l p) (parents_in w g l p) → r ≡ Some (row_with n v) → n ≤ most_parents
  row-counted {n} {v} e f = go (parents_in w g l p) refl (sym f ∙ e)
    where
      go : (o : Option (List ℕ)) → parents_in w g l p ≡ o → Some (row_with n v) ≡ row_read_of (level_of w g l p) o → n ≤ most_parents
      go None k h = let z : ◌≡◌ {A = ℕ} 0 1 = cc in absurd (omega arith)
      go (Some qs) k h = omega (arith, (row-same h).0, (good-list w g l p qs k).few)
