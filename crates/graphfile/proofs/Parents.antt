-- A written parent list is read back: the row's two fields, and EDGE. Assumes nothing.
use Rattle.std.specs.Prelude.{Some}
use mathlib.Core.Path.{◌≡◌, refl, ◌∙◌, ap}
use mathlib.Core.List.{List, [], ◌∷◌}
use Prim.Native.Nat.{ℕ, zero, suc, ◌+◌, ◌%◌, ◌≤◌, ◌<◌}
use native.Mathlib.Omega.{arith}
use lib.ListN.{length, get_or}
use borrow.Author.Tests.{eq-eqb, ne_eqb, lt-ltb, le-leb, lt-leb}
use Rattle.hash.specs.Bytes.{u32_at}
use Rattle.commitgraph.specs.declared.Layout.{Layout}
use Rattle.commitgraph.specs.Graph.{edge_in, edges_from, after_first, parents_in, row_in, with_parent, top_bit, no_parent}
use Rattle.commitgraph.proofs.Edges.{edge_last, edge_more}
use Rattle.graphfile.specs.GraphFile.{marked, edges_of, first_of, second_of}

pub length_marked : (qs : List ℕ) → length (marked qs) ≡ length qs
unfolding marked
length_marked [] = refl
length_marked (q ∷ []) = refl
length_marked (q ∷ (p ∷ ps)) = ap suc (length_marked (p ∷ ps))

module _ (w : ℕ) (g : List ℕ) (l : Layout) (low : l.count ≤ 1048576) where
  pub edges-read : (qs : List ℕ) (k j : ℕ) → 0 < length qs → length qs ≤ k → ((i : ℕ) → i < length qs → edge_in g l (j + i) ≡ get_or (marked qs) i 0)
      → j + length qs ≤ l.edges → ((i : ℕ) → i < length qs → get_or qs i 0 < l.count) → edges_from g l k j ≡ Some qs
  unfolding marked
  edges-read [] k j z h e s m = absurd (omega arith)
  edges-read (q ∷ []) zero j z h e s m = absurd (omega arith)
  edges-read (q ∷ []) (suc k) j z h e s m =
      let v : edge_in g l j ≡ top_bit + q = ap (edge_in g l) (let n : j ≡ j + 0 = omega arith in n) ∙ e 0 (omega arith) in
      let b : q < l.count = m 0 (omega arith) in
      let r : edge_in g l j % top_bit ≡ q = ap (λ (x : ℕ). x % top_bit) v ∙ (let t : (top_bit + q) % top_bit ≡ q = omega arith in t) in
      edge_last g l k j (omega arith) (omega (arith, r)) (omega (arith, v)) ∙ ap (λ (x : ℕ). Some (x ∷ [])) r
  edges-read (q ∷ (p ∷ ps)) zero j z h e s m = absurd (omega arith)
  edges-read (q ∷ (p ∷ ps)) (suc k) j z h e s m =
      let v : edge_in g l j ≡ q = ap (edge_in g l) (let n : j ≡ j + 0 = omega arith in n) ∙ e 0 (omega arith) in
      let b : q < l.count = m 0 (omega arith) in
      let r : edge_in g l j % top_bit ≡ q = ap (λ (x : ℕ). x % top_bit) v ∙ (let t : q % top_bit ≡ q = omega arith in t) in
      let t : edges_from g l k (suc j) ≡ Some (p ∷ ps) =
      edges-read (p ∷ ps) k (suc j) (omega arith) (omega arith)
      (λ i d. ap (edge_in g l) (let n : suc j + i ≡ j + suc i = omega arith in n) ∙ e (suc i) (omega arith)) (omega arith) (λ i d. m (suc i) (omega arith)) in
      edge_more g l k j (omega arith) (omega (arith, r)) (omega (arith, v)) ∙ ap (λ (x : ℕ). with_parent x (edges_from g l k (suc j))) r ∙ ap (with_parent q) t

  after_none : (b : ℕ) → b ≡ no_parent → after_first g l b ≡ Some []
  unfolding after_first
  after_none b e = rw (eq-eqb b no_parent e)

  after_one : (b : ℕ) → b < l.count → after_first g l b ≡ Some (b ∷ [])
  unfolding after_first
  after_one b h = rw (ne_eqb b no_parent (λ e. omega arith), lt-leb top_bit b (omega arith), lt-ltb b l.count h)

  after_list : (b e : ℕ) → b ≡ top_bit + e → e ≤ 268435456 → after_first g l b ≡ edges_from g l 255 e
  unfolding after_first
  after_list b e d h =
      let r : b % top_bit ≡ e = omega arith in
      rw (ne_eqb b no_parent (λ z. omega arith), le-leb top_bit b (omega arith)) (ap (edges_from g l 255) r)

  parents-none : (p : ℕ) → u32_at (row_in w g l p) w ≡ no_parent → u32_at (row_in w g l p) (w + 4) ≡ no_parent → parents_in w g l p ≡ Some []
  unfolding parents_in
  parents-none p a b = rw (eq-eqb (u32_at (row_in w g l p) w) no_parent a, eq-eqb (u32_at (row_in w g l p) (w + 4)) no_parent b)

  parents-some : (p q : ℕ) (qs : List ℕ) → u32_at (row_in w g l p) w ≡ q → q < l.count → after_first g l (u32_at (row_in w g l p) (w + 4)) ≡ Some qs → parents_in w g l p ≡ Some (q ∷ qs)
  unfolding parents_in
  parents-some p q qs a h b =
      rw (ne_eqb (u32_at (row_in w g l p) w) no_parent (λ z. omega arith), lt-ltb (u32_at (row_in w g l p) w) l.count (omega arith), b) (ap (λ (x : ℕ). Some (x ∷ qs)) a)

  -- the whole list, e entries of EDGE standing before its own
  pub parents-read : (ps : List ℕ) (p e : ℕ) → u32_at (row_in w g l p) w ≡ first_of ps → u32_at (row_in w g l p) (w + 4) ≡ second_of e ps → length ps ≤ 256
      → ((i : ℕ) → i < length ps → get_or ps i 0 < l.count) → e ≤ 268435456
      → ((i : ℕ) → i < length (edges_of ps) → (edge_in g l (e + i) ≡ get_or (edges_of ps) i 0) × (e + i < l.edges)) → parents_in w g l p ≡ Some ps
  unfolding first_of second_of edges_of
  parents-read [] p e a b few m h t = parents-none p a b
  parents-read (x ∷ []) p e a b few m h t = parents-some p x [] a (m 0 (omega arith)) (after_none (u32_at (row_in w g l p) (w + 4)) b)
  parents-read (x ∷ (y ∷ [])) p e a b few m h t =
      parents-some p x (y ∷ []) a (m 0 (omega arith)) (ap (after_first g l) b ∙ after_one y (m 1 (omega arith)))
  parents-read (x ∷ (y ∷ (z ∷ ps))) p e a b few m h t =
      let s = length_marked (y ∷ (z ∷ ps)) in
      parents-some p x (y ∷ (z ∷ ps)) a (m 0 (omega arith))
      (after_list (u32_at (row_in w g l p) (w + 4)) e b h
      ∙ edges-read (y ∷ (z ∷ ps)) 255 e (omega arith) (omega arith) (λ i d. (t i (omega arith)).0)
      (let u = (t (suc (length ps)) (omega arith)).1 in omega arith) (λ i d. m (suc i) (omega arith)))
