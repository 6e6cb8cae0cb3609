-- Laws of the lookup. In a right file the ids that begin with byte b stand from the fan-out's entry before b up to its entry b, so a
-- search there misses none of them; and all ids have one width, so an id of another stands nowhere. Assumes nothing.
use Rattle.std.specs.Prelude.{None, Option, Some}
use mathlib.Core.Path.{◌≡◌, refl, sym, ◌∙◌, ap, subst}
use Prim.Native.Nat.{ℕ, suc, ◌+◌, ◌-◌, ◌*◌, ◌≤◌, ◌<◌}
use mathlib.Core.Bool.{true}
use mathlib.Core.List.{List}
use native.Mathlib.Omega.{arith}
use native.Mathlib.Nat.{eq-zero-or-pos}
use mathlib.Core.Logic.{⊎_elim}
use lib.ListN.{length, get_or}
use borrow.Author.Tests.{eq-eqb, ne_eqb}
use Rattle.hash.specs.Bytes.{Id, u32_at}
use Rattle.hash.proofs.Widths.{in_all}
use Rattle.idlist.specs.IdList.{id_of, Stands, Finds, found_of}
use Rattle.idlist.proofs.Answer.{other_width, at_width, found_in, find-hit, find_at}
use Rattle.commitgraph.specs.declared.Layout.{Layout}
use Rattle.commitgraph.specs.Graph.{graph_ok, graph_ids, graph_id, graph_count, graph_find, fan_at, layout_of, position_of, id_in, ids_below, Looks}
use Rattle.commitgraph.proofs.Fan.{fan_counts, count_le}
use Rattle.commitgraph.proofs.LayoutRight.{right, in_fan}
use Rattle.commitgraph.proofs.RowsPlace.{id-own, whole-at}

-- the fan-out's entry before byte i
pub below-zero : (g : List ℕ) (l : Layout) (i : ℕ) → i ≡ 0 → ids_below g l i ≡ 0
unfolding ids_below
below-zero g l i h = rw (eq-eqb i 0 h)

pub below-entry : (g : List ℕ) (l : Layout) (i : ℕ) → (i ≡ 0 → ⊥) → ids_below g l i ≡ u32_at g (l.fan + 4 * (i - 1))
unfolding ids_below
below-entry g l i h = rw (ne_eqb i 0 h)

below-own : (w : ℕ) (g : List ℕ) (i : ℕ) → ids_below g (layout_of w g) (i + 1) ≡ fan_at g i
unfolding layout_of fan_at
below-own w g i = let n : i + 1 - 1 ≡ i = omega arith in below-entry g (layout_of w g) (i + 1) (λ e. omega arith) ∙ rw n

-- the ids of a right file stand in it
ids_stand : (w : ℕ) (g : List ℕ) (n : ℕ) → 0 < w → graph_ok w g ≡ true → n ≤ graph_count g → Stands (graph_ids w g) n
unfolding graph_ids
ids_stand w g n some_bytes ok h = record { moves = some_bytes; apart = omega arith; inside = omega (arith, (right w g ok).places.ids, in_all w h) }

fan_within : (w : ℕ) (g : List ℕ) (i : ℕ) → graph_ok w g ≡ true → i < 256 → fan_at g i ≤ graph_count g
fan_within w g i ok h = omega (arith, fan_counts w g 256 i (right w g ok).fan_right h, count_le w g i (graph_count g))

-- the ids between which an id is looked for
abbrev pub Search : ℕ → List ℕ → Layout → ℕ → Id → Option ℕ → Type 0
Search w g l b x r = Finds (record { bytes = g; width = length x; base = l.ids; stride = w }) (ids_below g l b) (ids_below g l (b + 1)) x r

pub search_of : (w : ℕ) (g : List ℕ) (l : Layout) (b : ℕ) (x : Id) {lo hi : ℕ} {r t : Option ℕ} → Finds (record { bytes = g; width = length x; base = l.ids; stride = w }) lo hi x r
    → lo ≡ ids_below g l b → hi ≡ ids_below g l (b + 1) → r ≡ t → Search w g l b x t
search_of w g l b x f p q e = rw (p, q, e) at f

module _ (w : ℕ) (g : List ℕ) (x : Id) (b : ℕ) (some_bytes : 0 < w) (first : b ≡ get_or x 0 0) (small : b < 256) (ok : graph_ok w g ≡ true) where
  inside : (k : ℕ) → k < graph_count g → id_of (graph_ids w g) k ≡ x → (ids_below g (layout_of w g) b ≤ k) × (k < ids_below g (layout_of w g) (b + 1))
  inside k h q =
      let f = in_fan w g x k some_bytes ok h q (rw (sym first) small) in
      let s : k < fan_at g b = rw (sym first) at f.before in
      (⊎_elim (λ z. rw (below-zero g (layout_of w g) b z) (omega arith)) (λ z. low z (f.past (b - 1))) (eq-zero-or-pos b), rw (below-own w g b) s)
    where
      low : 0 < b → (suc (b - 1) ≡ get_or x 0 0 → fan_at g (b - 1) ≤ k) → ids_below g (layout_of w g) b ≤ k
      low z f =
          let n : b ≡ b - 1 + 1 = omega arith in
          let e : ids_below g (layout_of w g) b ≡ fan_at g (b - 1) = ap (ids_below g (layout_of w g)) n ∙ below-own w g (b - 1) in
          rw e (f (omega arith))

  searched : {r : Option ℕ} → length x ≡ w → Search w g (layout_of w g) b x r → r ≡ found_of (graph_find w g x)
  unfolding graph_find graph_ids layout_of
  searched size f =
      let h : ids_below g (layout_of w g) (b + 1) ≤ graph_count g = rw (below-own w g b) (fan_within w g b ok small) in
      found_in (graph_count g) (at_width w size f) (ids_stand w g (ids_below g (layout_of w g) (b + 1)) some_bytes ok h) h (right w g ok).ids_rise inside

-- ---- positions and ids

-- what is found is below N and has the id
pub found-own : (w : ℕ) (g : List ℕ) (x : Id) (p : ℕ) → graph_find w g x ≡ Some p → (p < graph_count g) × (graph_id w g p ≡ x)
unfolding graph_find graph_id
found-own w g x p e = find-hit (graph_ids w g) x (graph_count g) p e

-- in a right file the id at a position is found there
pub find_own : (w : ℕ) (g : List ℕ) (p : ℕ) → graph_ok w g ≡ true → p < graph_count g → graph_find w g (graph_id w g p) ≡ Some p
unfolding graph_find graph_id
find_own w g p ok h = find_at (graph_ids w g) (id_of (graph_ids w g) p) (graph_count g) p (right w g ok).ids_rise h refl

-- an id that stands at a position stands in the file whole
whole_in : (w : ℕ) (g : List ℕ) (l : Layout) (x : Id) (p : ℕ) → 0 < w → length x ≡ w → id_in w g l p ≡ x → l.ids + w * p + w ≤ length g
unfolding id_in
whole_in w g l x p some_bytes size here = whole-at g (l.ids + w * p) w some_bytes (ap length here ∙ size)

-- so a position that has the id is the answer of a lookup
pub looks_at : (w : ℕ) (g : List ℕ) (l : Layout) (x : Id) (p : ℕ) → 0 < w → length x ≡ w → p < l.count → id_in w g l p ≡ x → Looks w g l x (Some p)
unfolding layout_of
looks_at w g l x p some_bytes size h here = record {
  right = λ ok own.
      let n : p < graph_count g = subst (λ (m : Layout). p < m.count) own h in
      let own-id : graph_id w g p ≡ x = sym (id-own w g l p own) ∙ here in
      ap position_of (sym (rw own-id at (find_own w g p ok n)));
  hit = λ q e. subst (λ (k : ℕ). (k < l.count) × (id_in w g l k ≡ x)) (one e) (h, here);
  inside = λ q e. subst (λ (k : ℕ). l.ids + w * k + w ≤ length g) (one e) (whole_in w g l x p some_bytes size here);
  foreign = λ n. absurd (n size);
}
  where
    one : {q : ℕ} → Some p ≡ Some q → p ≡ q
    one e = cc

-- ---- the answers

no_hit : {X : Type 0} (p : ℕ) → None ≡ Some p → X
no_hit p e = let z : ◌≡◌ {A = ℕ} 0 1 = cc in absurd (omega arith)

-- where nothing is found only the first clause says something
looks_absent : (w : ℕ) (g : List ℕ) (l : Layout) (x : Id) → (graph_ok w g ≡ true → l ≡ layout_of w g → None ≡ position_of (graph_find w g x)) → Looks w g l x None
looks_absent w g l x f = record { right = f; hit = λ p e. no_hit p e; inside = λ p e. no_hit p e; foreign = λ n. refl }

miss_position : (o : Option ℕ) → None ≡ found_of o → None ≡ position_of o
miss_position None e = refl
miss_position (Some k) e = let z : ◌≡◌ {A = ℕ} 0 1 = cc in absurd (omega arith)

-- an id of another width
pub looks_width : (w : ℕ) (g : List ℕ) (l : Layout) (x : Id) → 0 < w → (length x ≡ w → ⊥) → Looks w g l x None
unfolding graph_find graph_ids
looks_width w g l x some_bytes other =
    looks_absent w g l x (λ ok e. ap position_of (sym (other_width (graph_ids w g) x (graph_count g) (ids_stand w g (graph_count g) some_bytes ok (omega arith)) other)))

module _ (w : ℕ) (g : List ℕ) (l : Layout) (x : Id) (b : ℕ) (some_bytes : 0 < w) (first : b ≡ get_or x 0 0) (small : b < 256) where
  -- a fan-out that counts more than N ids
  pub looks-over : l.count < ids_below g l (b + 1) → Looks w g l x None
  unfolding layout_of
  looks-over h =
      looks_absent w g l x
      (λ ok e.
      let m : (layout_of w g).count < ids_below g (layout_of w g) (b + 1) = subst (λ (l' : Layout). l'.count < ids_below g l' (b + 1)) e h in
      absurd (omega (arith, below-own w g b, fan_within w g b ok small)))

  module _ (size : length x ≡ w) where
    pub looks-hit : (p : ℕ) → ids_below g l (b + 1) ≤ l.count → Search w g l b x (Some p) → Looks w g l x (Some p)
    unfolding id_in id_of
    looks-hit p h f = let here = (at_width w size f).hit p refl in looks_at w g l x p some_bytes size (omega (arith, here.1)) here.2

    pub looks-miss : Search w g l b x None → Looks w g l x None
    looks-miss f =
        looks_absent w g l x
        (λ ok e. miss_position (graph_find w g x) (searched w g x b some_bytes first small ok size (subst (λ (l' : Layout). Search w g l' b x None) e f)))

-- ---- what is found nowhere

-- where N is 0, as with no file, nothing is found
pub looks_none : {w : ℕ} {g : List ℕ} {l : Layout} {x : Id} (r : Option ℕ) → Looks w g l x r → l.count ≡ 0 → r ≡ None
looks_none (Some p) f z = let h = (f.hit p refl).0 in absurd (omega arith)
looks_none None f z = refl

-- where the file ends before the layout's first id does, nothing is found
pub looks_torn : {w : ℕ} {g : List ℕ} {l : Layout} {x : Id} (r : Option ℕ) → Looks w g l x r → length g < l.ids + w → r ≡ None
looks_torn (Some p) f z = absurd (omega (arith, f.inside p refl))
looks_torn None f z = refl
