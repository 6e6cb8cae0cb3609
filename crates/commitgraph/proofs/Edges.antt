-- Laws of parent lists. A good list has at most 256 parents, each a position below N, and its k-th parent is read at one place of the
-- file: the row's first field, its second, or an entry of EDGE. Assumes nothing.
use Rattle.std.specs.Prelude.{None, Option, Some}
use mathlib.Core.Path.{◌≡◌, refl, sym, ◌∙◌, ap, subst}
use Prim.Native.Nat.{ℕ, zero, suc, ◌+◌, ◌-◌, ◌%◌, ◌≤◌, ◌<◌}
use mathlib.Core.Logic.{⊎_elim}
use mathlib.Core.Bool.{Bool, cond}
use mathlib.Core.List.Memᴰ
use mathlib.Core.List.{List, [], ◌∷◌, Memᴰ}
use native.Mathlib.Omega.{arith}
use native.Mathlib.Nat.{add-zero}
use lib.ListN.{length, get_or}
use lib.Dec.{eqb, ltb, leb}
use borrow.Author.Tests.{ltb-true, ltb-false, leb-true, leb-false, eqb-true, eqb-false, lt-ltb, le-ltb, le-leb, lt-leb, eq-eqb, ne_eqb}
use Rattle.hash.specs.Bytes.{u32_at}
use Rattle.hash.proofs.Tests.{by_cases}
use Rattle.commitgraph.specs.declared.Layout.{Layout}
use Rattle.commitgraph.specs.Graph.{edge_in, edges_from, after_first, parents_in, parent_in, graph_parents, graph_count, layout_of, row_in, parent_list_of, counted_from, with_parent, top_bit, no_parent, most_parents}

-- ---- an entry of EDGE: it is none, the last, or one before others

edge_none : (g : List ℕ) (l : Layout) (j : ℕ) → edges_from g l zero j ≡ None
unfolding edges_from
edge_none g l j = refl

module _ (g : List ℕ) (l : Layout) (k j : ℕ) where
  pub edge-out : l.edges ≤ j → edges_from g l (suc k) j ≡ None
  unfolding edges_from
  edge-out h = rw (le-ltb j l.edges h)

  pub edge-high : l.count ≤ edge_in g l j % top_bit → edges_from g l (suc k) j ≡ None
  unfolding edges_from
  edge-high h = by_cases (ltb j l.edges) (λ t. rw (t, le-ltb (edge_in g l j % top_bit) l.count h)) (λ t. rw t)

  module _ (inside : j < l.edges) (low : edge_in g l j % top_bit < l.count) where
    edge_is : edges_from g l (suc k) j ≡ with_parent (edge_in g l j % top_bit) (cond (leb top_bit (edge_in g l j)) (Some []) (edges_from g l k (suc j)))
    unfolding edges_from
    edge_is = rw (lt-ltb j l.edges inside, lt-ltb (edge_in g l j % top_bit) l.count low)

    pub edge_last : top_bit ≤ edge_in g l j → edges_from g l (suc k) j ≡ Some (edge_in g l j % top_bit ∷ [])
    edge_last h = edge_is ∙ ap (λ (b : Bool). with_parent (edge_in g l j % top_bit) (cond b (Some []) (edges_from g l k (suc j)))) (le-leb top_bit (edge_in g l j) h)

    pub edge_more : edge_in g l j < top_bit → edges_from g l (suc k) j ≡ with_parent (edge_in g l j % top_bit) (edges_from g l k (suc j))
    edge_more h = edge_is ∙ ap (λ (b : Bool). with_parent (edge_in g l j % top_bit) (cond b (Some []) (edges_from g l k (suc j)))) (lt-leb top_bit (edge_in g l j) h)

-- what holds of the element at every place holds of every member
members : (ps : List ℕ) (P : ℕ → Type 0) → ((k : ℕ) → k < length ps → P (get_or ps k 0)) → (q : ℕ) → Memᴰ q ps → P q
members [] P f q m = absurd (Memᴰ.not-nil m)
members (x ∷ ps) P f q m = ⊎_elim (λ e. rw e (f 0 (omega arith))) (λ n. members ps P (λ k h. f (suc k) (omega arith)) q n) (Memᴰ.cases_cons m)

-- ---- the count, entry by entry

counted_with : (c q : ℕ) (o : Option (List ℕ)) → counted_from c (with_parent q o) ≡ counted_from (c + 1) o
counted_with c q None = refl
counted_with c q (Some ps) = ap Some (omega arith)

pub counted-first : (q : ℕ) (o : Option (List ℕ)) → parent_list_of (with_parent q o) ≡ counted_from 1 o
counted-first q None = refl
counted-first q (Some ps) = ap Some (omega arith)

module _ (g : List ℕ) (l : Layout) (from : ℕ) where
  -- the count where the first parent and i entries have been passed
  abbrev pub left : ℕ → Option ℕ
  left i = counted_from (1 + i) (edges_from g l (255 - i) (from + i))

  pub left-start : left 0 ≡ counted_from 1 (edges_from g l 255 from)
  left-start = rw (add-zero from)

  pub left_end : left 255 ≡ None
  unfolding edges_from
  left_end = refl

  module _ (i : ℕ) (h : i < 255) where
    next : (o : Option (List ℕ)) → edges_from g l (suc (254 - i)) (from + i) ≡ o → left i ≡ counted_from (1 + i) o
    next o e = let n : 255 - i ≡ suc (254 - i) = omega arith in ap (λ (k : ℕ). counted_from (1 + i) (edges_from g l k (from + i))) n ∙ ap (counted_from (1 + i)) e

    pub left_out : l.edges ≤ from + i → left i ≡ None
    left_out o = next None (edge-out g l (254 - i) (from + i) o)

    pub left-high : l.count ≤ edge_in g l (from + i) % top_bit → left i ≡ None
    left-high o = next None (edge-high g l (254 - i) (from + i) o)

    module _ (inside : from + i < l.edges) (low : edge_in g l (from + i) % top_bit < l.count) where
      pub left-last : top_bit ≤ edge_in g l (from + i) → left i ≡ Some (i + 2)
      left-last o = next _ (edge_last g l (254 - i) (from + i) inside low o) ∙ ap Some (omega arith)

      pub left-more : edge_in g l (from + i) < top_bit → left i ≡ left (i + 1)
      left-more o =
          let q = edge_in g l (from + i) % top_bit in
          let n : suc (from + i) ≡ from + (i + 1) = omega arith in
          let m : 254 - i ≡ 255 - (i + 1) = omega arith in
          let c : 1 + i + 1 ≡ 1 + (i + 1) = omega arith in
          next _ (edge_more g l (254 - i) (from + i) inside low o)
          ∙ (counted_with (1 + i) q (edges_from g l (254 - i) (suc (from + i))) ∙ rw (n, m, c))

-- ---- good lists

with_some : (q : ℕ) (o : Option (List ℕ)) (ps : List ℕ) → with_parent q o ≡ Some ps → (es : List ℕ) × (o ≡ Some es) × (ps ≡ q ∷ es)
with_some q None ps e = let z : ◌≡◌ {A = ℕ} 0 1 = cc in absurd (omega arith)
with_some q (Some es) ps e = (es, refl, cc)

no-list : {X : Type 0} (ps : List ℕ) → ◌≡◌ {A = Option (List ℕ)} None (Some ps) → X
no-list ps e = let z : ◌≡◌ {A = ℕ} 0 1 = cc in absurd (omega arith)

-- a list of at most k entries of EDGE, from entry j on
pub record EdgeList (g : List ℕ) (l : Layout) (k j : ℕ) (es : List ℕ) : Type 0 where
  pub few : length es ≤ k
  pub each : (i : ℕ) → i < length es → get_or es i 0 ≡ edge_in g l (j + i) % top_bit
  pub below : (i : ℕ) → i < length es → get_or es i 0 < l.count

edge_cons : (g : List ℕ) (l : Layout) (k j : ℕ) (es : List ℕ) → edge_in g l j % top_bit < l.count → EdgeList g l k (suc j) es
    → EdgeList g l (suc k) j (edge_in g l j % top_bit ∷ es)
edge_cons g l k j es low r = record {
  few = omega (arith, r.few);
  each = each;
  below = below;
}
  where
    each : (i : ℕ) → i < suc (length es) → get_or (edge_in g l j % top_bit ∷ es) i 0 ≡ edge_in g l (j + i) % top_bit
    each zero h = rw (add-zero j)
    each (suc i) h = let n : suc j + i ≡ j + suc i = omega arith in r.each i (omega arith) ∙ ap (λ (m : ℕ). edge_in g l m % top_bit) n

    below : (i : ℕ) → i < suc (length es) → get_or (edge_in g l j % top_bit ∷ es) i 0 < l.count
    below zero h = low
    below (suc i) h = r.below i (omega arith)

edge_nil : (g : List ℕ) (l : Layout) (k j : ℕ) → EdgeList g l k j []
edge_nil g l k j = record { few = omega arith; each = λ i h. absurd (omega arith); below = λ i h. absurd (omega arith) }

pub edge_list : (g : List ℕ) (l : Layout) (k j : ℕ) (es : List ℕ) → edges_from g l k j ≡ Some es → EdgeList g l k j es
edge_list g l zero j es e = no-list es (sym (edge_none g l j) ∙ e)
edge_list g l (suc k) j es e =
    by_cases (ltb j l.edges)
    (λ h. by_cases (ltb (v % top_bit) l.count)
    (λ t. by_cases (leb top_bit v)
    (λ u.
    let es≡ : Some es ≡ Some (v % top_bit ∷ []) = sym e ∙ edge_last g l k j (ltb-true _ _ h) (ltb-true _ _ t) (leb-true _ _ u) in
    let s : v % top_bit ∷ [] ≡ es = cc in
    subst (EdgeList g l (suc k) j) s (edge_cons g l k j [] (ltb-true _ _ t) (edge_nil g l k (suc j))))
    (λ u.
    let both = with_some (v % top_bit) (edges_from g l k (suc j)) es (sym (edge_more g l k j (ltb-true _ _ h) (ltb-true _ _ t) (leb-false _ _ u)) ∙ e) in
    subst (EdgeList g l (suc k) j) (sym both.2) (edge_cons g l k j both.0 (ltb-true _ _ t) (edge_list g l k (suc j) both.0 both.1))))
    (λ t. no-list es (sym (edge-high g l k j (ltb-false _ _ t)) ∙ e)))
    (λ h. no-list es (sym (edge-out g l k j (ltb-false _ _ h)) ∙ e))
  where
    v : ℕ
    v = edge_in g l j

-- the parents after the first, b being the row's second parent
pub record After (g : List ℕ) (l : Layout) (b : ℕ) (es : List ℕ) : Type 0 where
  pub few : length es ≤ 255
  pub below : (i : ℕ) → i < length es → get_or es i 0 < l.count
  pub second : b < top_bit → (i : ℕ) → i < length es → get_or es i 0 ≡ b
  pub listed : top_bit ≤ b → (i : ℕ) → i < length es → get_or es i 0 ≡ edge_in g l (b % top_bit + i) % top_bit

module _ (g : List ℕ) (l : Layout) (b : ℕ) where
  pub after_none : b ≡ no_parent → after_first g l b ≡ Some []
  unfolding after_first
  after_none h = rw (eq-eqb b no_parent h)

  pub after-edges : top_bit ≤ b → after_first g l b ≡ edges_from g l 255 (b % top_bit)
  unfolding after_first
  after-edges h = rw (ne_eqb b no_parent (λ e. omega arith), le-leb top_bit b h)

  module _ (ne : b ≡ no_parent → ⊥) (small : b < top_bit) where
    pub after_one : b < l.count → after_first g l b ≡ Some (b ∷ [])
    unfolding after_first
    after_one h = rw (ne_eqb b no_parent ne, lt-leb top_bit b small, lt-ltb b l.count h)

    pub after-high : l.count ≤ b → after_first g l b ≡ None
    unfolding after_first
    after-high h = rw (ne_eqb b no_parent ne, lt-leb top_bit b small, le-ltb b l.count h)

  after_list : (es : List ℕ) → after_first g l b ≡ Some es → After g l b es
  after_list es e =
      by_cases (eqb b no_parent)
      (λ h.
      let o : Some [] ≡ Some es = sym (after_none (eqb-true _ _ h)) ∙ e in
      let s : [] ≡ es = cc in
      subst (After g l b) s empty)
      (λ h. by_cases (leb top_bit b)
      (λ t. listed (leb-true _ _ t) (edge_list g l 255 (b % top_bit) es (sym (after-edges (leb-true _ _ t)) ∙ e)))
      (λ t. by_cases (ltb b l.count)
      (λ u.
      let o : Some (b ∷ []) ≡ Some es = sym (after_one (eqb-false _ _ h) (leb-false _ _ t) (ltb-true _ _ u)) ∙ e in
      let s : b ∷ [] ≡ es = cc in
      subst (After g l b) s (single (leb-false _ _ t) (ltb-true _ _ u)))
      (λ u. no-list es (sym (after-high (eqb-false _ _ h) (leb-false _ _ t) (ltb-false _ _ u)) ∙ e))))
    where
      empty : After g l b []
      empty = record { few = omega arith; below = λ i h. absurd (omega arith); second = λ s i h. absurd (omega arith); listed = λ s i h. absurd (omega arith) }

      only : (P : ℕ → Type 0) → P b → (i : ℕ) → i < 1 → P (get_or (b ∷ []) i 0)
      only P h zero i = h
      only P h (suc n) i = absurd (omega arith)

      single : b < top_bit → b < l.count → After g l b (b ∷ [])
      single s u = record {
        few = omega arith;
        below = only (λ q. q < l.count) u;
        second = λ t. only (λ q. q ≡ b) refl;
        listed = λ t i h. absurd (omega arith);
      }

      listed : top_bit ≤ b → EdgeList g l 255 (b % top_bit) es → After g l b es
      listed t r = record { few = r.few; below = r.below; second = λ s i h. absurd (omega arith); listed = λ s. r.each }

-- a good parent list: how many, where each stands in the file, and that each is a position
pub record GoodList (w : ℕ) (g : List ℕ) (l : Layout) (p : ℕ) (ps : List ℕ) : Type 0 where
  pub few : length ps ≤ most_parents
  pub below : (k : ℕ) → k < length ps → get_or ps k 0 < l.count
  pub first : 0 < length ps → get_or ps 0 0 ≡ u32_at (row_in w g l p) w
  pub second : u32_at (row_in w g l p) (w + 4) < top_bit → (k : ℕ) → 0 < k → k < length ps → get_or ps k 0 ≡ u32_at (row_in w g l p) (w + 4)
  pub listed : top_bit ≤ u32_at (row_in w g l p) (w + 4) → (k : ℕ) → 0 < k → k < length ps
      → get_or ps k 0 ≡ edge_in g l (u32_at (row_in w g l p) (w + 4) % top_bit + (k - 1)) % top_bit

module _ (w : ℕ) (g : List ℕ) (l : Layout) (p : ℕ) where
  pub parents-root : u32_at (row_in w g l p) w ≡ no_parent → u32_at (row_in w g l p) (w + 4) ≡ no_parent → parents_in w g l p ≡ Some []
  unfolding parents_in
  parents-root h k = rw (eq-eqb _ _ h, eq-eqb _ _ k)

  pub parents-torn : u32_at (row_in w g l p) w ≡ no_parent → (u32_at (row_in w g l p) (w + 4) ≡ no_parent → ⊥) → parents_in w g l p ≡ None
  unfolding parents_in
  parents-torn h k = rw (eq-eqb _ _ h, ne_eqb _ _ k)

  module _ (ne : u32_at (row_in w g l p) w ≡ no_parent → ⊥) where
    pub parents-high : l.count ≤ u32_at (row_in w g l p) w → parents_in w g l p ≡ None
    unfolding parents_in
    parents-high h = rw (ne_eqb _ _ ne, le-ltb _ _ h)

    pub parents-some : u32_at (row_in w g l p) w < l.count → parents_in w g l p ≡ with_parent (u32_at (row_in w g l p) w) (after_first g l (u32_at (row_in w g l p) (w + 4)))
    unfolding parents_in
    parents-some h = rw (ne_eqb _ _ ne, lt-ltb _ _ h)

  good-cons : (es : List ℕ) → u32_at (row_in w g l p) w < l.count → After g l (u32_at (row_in w g l p) (w + 4)) es → GoodList w g l p (u32_at (row_in w g l p) w ∷ es)
  good-cons es h r = record {
    few = omega (arith, r.few);
    below = below;
    first = λ n. refl;
    second = λ s k n m. later (λ i q. q ≡ b) (r.second s) k n m;
    listed = λ s k n m. later (λ i q. q ≡ edge_in g l (b % top_bit + i) % top_bit) (r.listed s) k n m;
  }
    where
      a : ℕ
      a = u32_at (row_in w g l p) w

      b : ℕ
      b = u32_at (row_in w g l p) (w + 4)

      later : (P : ℕ → ℕ → Type 0) → ((i : ℕ) → i < length es → P i (get_or es i 0)) → (k : ℕ) → 0 < k → k < suc (length es) → P (k - 1) (get_or (a ∷ es) k 0)
      later P f zero n m = absurd (omega arith)
      later P f (suc k) n m = let e : suc k - 1 ≡ k = omega arith in rw e (f k (omega arith))

      below : (k : ℕ) → k < suc (length es) → get_or (a ∷ es) k 0 < l.count
      below zero m = h
      below (suc k) m = r.below k (omega arith)

  good-nil : GoodList w g l p []
  good-nil = record {
    few = omega arith;
    below = λ k h. absurd (omega arith);
    first = λ h. absurd (omega arith);
    second = λ s k n h. absurd (omega arith);
    listed = λ s k n h. absurd (omega arith);
  }

  pub good-list : (ps : List ℕ) → parents_in w g l p ≡ Some ps → GoodList w g l p ps
  good-list ps e =
      by_cases (eqb a no_parent)
      (λ h. by_cases (eqb b no_parent)
      (λ k.
      let o : Some [] ≡ Some ps = sym (parents-root (eqb-true _ _ h) (eqb-true _ _ k)) ∙ e in
      let s : [] ≡ ps = cc in
      subst (GoodList w g l p) s good-nil)
      (λ k. no-list ps (sym (parents-torn (eqb-true _ _ h) (eqb-false _ _ k)) ∙ e)))
      (λ h. by_cases (ltb a l.count)
      (λ k.
      let both = with_some a (after_first g l b) ps (sym (parents-some (eqb-false _ _ h) (ltb-true _ _ k)) ∙ e) in
      subst (GoodList w g l p) (sym both.2) (good-cons both.0 (ltb-true _ _ k) (after_list g l b both.0 both.1)))
      (λ k. no-list ps (sym (parents-high (eqb-false _ _ h) (ltb-false _ _ k)) ∙ e)))
    where
      a : ℕ
      a = u32_at (row_in w g l p) w

      b : ℕ
      b = u32_at (row_in w g l p) (w + 4)

-- ---- one parent by its place

module _ (w : ℕ) (g : List ℕ) (l : Layout) (p : ℕ) where
  pub parent-first : (k : ℕ) → k ≡ 0 → parent_in w g l p k ≡ u32_at (row_in w g l p) w
  unfolding parent_in
  parent-first k e = rw e

  pub parent-second : (k : ℕ) → (k ≡ 0 → ⊥) → u32_at (row_in w g l p) (w + 4) < top_bit → parent_in w g l p k ≡ u32_at (row_in w g l p) (w + 4)
  unfolding parent_in
  parent-second zero n h = absurd (n refl)
  parent-second (suc k) n h = rw (lt-leb top_bit _ h)

  pub parent-edge : (k : ℕ) → (k ≡ 0 → ⊥) → top_bit ≤ u32_at (row_in w g l p) (w + 4)
      → parent_in w g l p k ≡ edge_in g l (u32_at (row_in w g l p) (w + 4) % top_bit + (k - 1)) % top_bit
  unfolding parent_in
  parent-edge zero n h = absurd (n refl)
  parent-edge (suc k) n h = let e : suc k - 1 ≡ k = omega arith in rw (le-leb top_bit _ h, e)

  -- parent k of a good list stands at its place
  parent-there : (k : ℕ) (ps : List ℕ) → parents_in w g l p ≡ Some ps → k < length ps → parent_in w g l p k ≡ get_or ps k 0
  parent-there k ps e h =
      let good = good-list w g l p ps e in
      by_cases (eqb k 0)
      (λ z.
      let n : k ≡ 0 = eqb-true _ _ z in
      parent-first k n ∙ (sym (good.first (omega arith)) ∙ ap (λ (j : ℕ). get_or ps j 0) (sym n)))
      (λ z.
      let n : k ≡ 0 → ⊥ = eqb-false _ _ z in
      by_cases (leb top_bit (u32_at (row_in w g l p) (w + 4)))
      (λ t. parent-edge k n (leb-true _ _ t) ∙ sym (good.listed (leb-true _ _ t) k (omega arith) h))
      (λ t. parent-second k n (leb-false _ _ t) ∙ sym (good.second (leb-false _ _ t) k (omega arith) h)))

-- a number read as parent k is parent k of the list, where the list is good and has so many: for readers that counted the parents before
pub parent_listed : (w : ℕ) (g : List ℕ) (l : Layout) (p k : ℕ) {q : ℕ} → q ≡ parent_in w g l p k → (ps : List ℕ) → parents_in w g l p ≡ Some ps → k < length ps → q ≡ get_or ps k 0
parent_listed w g l p k r ps e h = r ∙ parent-there w g l p k ps e h

-- ---- of the file's own layout

module _ (w : ℕ) (g : List ℕ) (p : ℕ) (ps : List ℕ) (e : graph_parents w g p ≡ Some ps) where
  -- a good list has at most 256 parents
  pub parents-few : length ps ≤ most_parents
  unfolding graph_parents
  parents-few = (good-list w g (layout_of w g) p ps e).few

  -- every position of a good list is below N
  pub parents-at-below : (k : ℕ) → k < length ps → get_or ps k 0 < graph_count g
  unfolding graph_parents layout_of
  parents-at-below = (good-list w g (layout_of w g) p ps e).below

  pub parents-below : (q : ℕ) → Memᴰ q ps → q < graph_count g
  parents-below = members ps (λ q. q < graph_count g) parents-at-below
