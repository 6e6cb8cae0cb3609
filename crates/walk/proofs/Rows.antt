-- The rows of a commit-graph file with a good layout: positions of parents are below N, and an id's row is found at its position, since
-- ids rise strictly; so the seconds that a row gives its parents are those of their own rows. Assumes nothing.
use Rattle.std.specs.Prelude.{None, Option, Some}
use mathlib.Core.Path.{◌≡◌, refl, sym, ◌∙◌, ap, subst}
use mathlib.Core.Logic.{◌⊎◌, inl, inr, ⊎_elim}
use Prim.Native.Nat.{ℕ, zero, suc, ◌≤◌, ◌<◌}
use mathlib.Core.Bool.{true}
use mathlib.Core.List.Memᴰ
use mathlib.Core.List.{List, [], ◌∷◌, map}
use native.Mathlib.Omega.{arith}
use native.Mathlib.Nat.{eq-or-lt_of_le}
use lib.ListN.{length}
use lib.IntN.{ℤ}
use Rattle.hash.specs.Bytes.{Id, if_some}
use Rattle.hash.proofs.Tests.{no-some}
use Rattle.idlist.specs.IdList.{find_in}
use Rattle.idlist.proofs.Answer.{find_at}
use Rattle.commitgraph.specs.Graph.{graph_count, graph_ids, graph_id, graph_find, graph_parents, graph_seconds, generation, graph_ok}
use Rattle.walk.specs.Lookup.{no_row, corrupt, row, row_at, world_of}
use Rattle.walk.specs.Universe.{row_ids}
use Rattle.walk.specs.Reach.{Mem}
use Rattle.walk.proofs.Laws.{Coherent}
use Rattle.commitgraph.proofs.LayoutRight.{right}
use Rattle.commitgraph.proofs.Edges.{parents-below}

-- the id at a position is found there
pub row-found : (width : ℕ) (g : List ℕ) → graph_ok width g ≡ true → (q : ℕ) → q < graph_count g → graph_find width g (graph_id width g q) ≡ Some q
unfolding graph_find graph_id
row-found width g ok q l = find_at (graph_ids width g) (graph_id width g q) (graph_count g) q (right width g ok).ids_rise l refl

pub mem_of_map : {A B : Type 0} (f : A → B) (l : List A) (b : B) → Mem b (map f l) → (a : A) × Mem a l × (b ≡ f a)
mem_of_map f [] b m = absurd (Memᴰ.not-nil m)
mem_of_map f (x ∷ xs) b m =
    ⊎_elim (λ e. (x, Memᴰ.head refl, e)) (λ k. let r = mem_of_map f xs b k in (r.0, Memᴰ.tail r.1, r.2)) (Memᴰ.cases_cons m)

-- a row of the world is a row of the file
pub record IsRow (width : ℕ) (g : List ℕ) (x : Id) (ps : List (Id × ℤ)) : Type 0 where
  pub place : ℕ
  pub found : graph_find width g x ≡ Some place
  pub places : List ℕ
  pub listed : graph_parents width g place ≡ Some places
  pub same : ps ≡ map (λ q. (graph_id width g q, graph_seconds width g q)) places

pub is_row : (width : ℕ) (b g : List ℕ) (x : Id) (ps : List (Id × ℤ)) (l : ℕ) (s : ℤ) → (world_of width b g).graph x ≡ row ps l s → IsRow width g x ps
unfolding world_of row_at
is_row width b g x ps l s e = go (graph_find width g x) refl e
  where
    on : (p : ℕ) → graph_find width g x ≡ Some p → (o : Option (List ℕ)) → graph_parents width g p ≡ o
        → if_some o corrupt (λ qs. row (map (λ q. (graph_id width g q, graph_seconds width g q)) qs) (generation width g p) (graph_seconds width g p)) ≡ row ps l s → IsRow width g x ps
    on p f None k e' = let z : ◌≡◌ {A = ℕ} 0 1 = cc in absurd (omega arith)
    on p f (Some qs) k e' = record { place = p; found = f; places = qs; listed = k; same = cc }

    go : (o : Option ℕ) → graph_find width g x ≡ o → if_some o no_row (λ p. row_at width g p) ≡ row ps l s → IsRow width g x ps
    go None k e' = let z : ◌≡◌ {A = ℕ} 0 1 = cc in absurd (omega arith)
    go (Some p) k e' = on p k (graph_parents width g p) refl e'

row_or_corrupt : (width : ℕ) (b g : List ℕ) (x : Id) (p : ℕ) → graph_find width g x ≡ Some p
    → ((world_of width b g).graph x ≡ corrupt) ⊎ ((qs : List (Id × ℤ)) × (m : ℕ) × ((world_of width b g).graph x ≡ row qs m (graph_seconds width g p)))
unfolding world_of row_at
row_or_corrupt width b g x p f = go (graph_parents width g p) refl
  where
    go : (o : Option (List ℕ)) → graph_parents width g p ≡ o → ((world_of width b g).graph x ≡ corrupt) ⊎ ((qs : List (Id × ℤ)) × (m : ℕ) × ((world_of width b g).graph x ≡ row qs m (graph_seconds width g p)))
    go None k = inl (rw (f, k))
    go (Some l) k = inr (map (λ q. (graph_id width g q, graph_seconds width g q)) l, generation width g p, rw (f, k))

pub coherent_world : (width : ℕ) (b g : List ℕ) → graph_ok width g ≡ true → Coherent (world_of width b g)
unfolding Coherent
coherent_world width b g ok x ps l s e t m =
    let r = is_row width b g x ps l s e in
    let q = mem_of_map (λ q. (graph_id width g q, graph_seconds width g q)) r.places t (rw r.same at m) in
    let f = row-found width g ok q.0 (parents-below width g r.place r.places r.listed q.0 q.1) in
    rw q.2 (row_or_corrupt width b g (graph_id width g q.0) q.0 f)

pub find_nil : (width : ℕ) (y : Id) → graph_find width [] y ≡ None
unfolding graph_find graph_count find_in
find_nil width y = refl

-- a zero-length graph has no rows
pub no_rows : (width : ℕ) (b : List ℕ) → Coherent (world_of width b [])
unfolding Coherent
no_rows width b x ps l s e t m = no-some (sym (find_nil width x) ∙ (is_row width b [] x ps l s e).found)

row_ids_in : (width : ℕ) (g : List ℕ) (k q : ℕ) → q < k → Mem (graph_id width g q) (row_ids width g k)
unfolding row_ids
row_ids_in width g zero q l = absurd (omega arith)
row_ids_in width g (suc k) q l = ⊎_elim (λ e. Memᴰ.head (ap (graph_id width g) e)) (λ h. Memᴰ.tail (row_ids_in width g k q h)) (eq-or-lt_of_le le)
  where
    le : q ≤ k
    le = omega arith

pub row_ids_length : (width : ℕ) (g : List ℕ) (k : ℕ) → length (row_ids width g k) ≡ k
unfolding row_ids
row_ids_length width g zero = refl
row_ids_length width g (suc k) = ap suc (row_ids_length width g k)

pub rows_in : (width : ℕ) (b g : List ℕ) (x p : Id) (ps : List (Id × ℤ)) (l : ℕ) (s : ℤ) → (world_of width b g).graph x ≡ row ps l s → Mem p (map (λ q. q.0) ps) → Mem p (row_ids width g (graph_count g))
rows_in width b g x p ps l s e m =
    let r = is_row width b g x ps l s e in
    let t = mem_of_map (λ (q : Id × ℤ). q.0) ps p m in
    let q = mem_of_map (λ q. (graph_id width g q, graph_seconds width g q)) r.places t.0 (subst (λ (l : List (Id × ℤ)). Mem t.0 l) r.same t.1) in
    let e₁ : p ≡ graph_id width g q.0 = t.2 ∙ ap (λ (u : Id × ℤ). u.0) q.2 in
    rw e₁ (row_ids_in width g (graph_count g) q.0 (parents-below width g r.place r.places r.listed q.0 q.1))
