-- A list of one or two parents is told by the row's first two numbers, and the level by its third. Assumes nothing.
use Rattle.std.specs.Prelude.{Some}
use mathlib.Core.Path.{◌≡◌, refl, sym, ap, ◌∙◌}
use mathlib.Core.Logic.{◌⊎◌, inl, inr, ⊎_elim}
use Prim.Native.Nat.{ℕ, zero, suc, ◌+◌, ◌/◌, ◌≤◌, ◌<◌}
use mathlib.Core.Bool.{cond}
use mathlib.Core.List.{List}
use native.Mathlib.Omega.{arith}
use Rattle.hash.specs.Bytes.{u32_at}
use Rattle.commitgraph.specs.Graph.{level_in, no_generation, no_parent, parent_list_of, parents_in, row_in, stated_level, with_parent}
use Rattle.commitgraph.specs.declared.Layout.{Layout}
use Rattle.commitgraph.proofs.Edges.{after_none, after_one, parents-some}
use Rattle.rowvisit.specs.Numbers.{Numbers, PlainList}

one_or_two : (n : ℕ) → n ≤ 2 → (n ≡ 0 → ⊥) → (n ≡ 1) ⊎ (n ≡ 2)
one_or_two zero f z = absurd (z refl)
one_or_two (suc zero) f z = inl refl
one_or_two (suc (suc zero)) f z = inr refl
one_or_two (suc (suc (suc n))) f z = absurd (omega arith)

module _ {width : ℕ} {g : List ℕ} {l : Layout} {p a b : ℕ} (h : Numbers width g l p a b) where
  -- "0 < n": the row's own list is good
  pub plain-list : {n : ℕ} → PlainList l.count a b n → (n ≡ 0 → ⊥) → Some n ≡ parent_list_of (parents_in width g l p)
  plain-list {n} t z =
      let x : ℕ = u32_at (row_in width g l p) width in
      let y : ℕ = u32_at (row_in width g l p) (width + 4) in
      let o : 0 < n = omega (arith, z) in
      let s = parents-some width g l p (λ e. t.some_first o (h.first ∙ e)) (omega (arith, h.first, t.first-low o)) in
      ⊎_elim
      (λ e. ap Some e ∙ sym (ap parent_list_of (s ∙ ap (with_parent x) (after_none g l y (sym h.second ∙ t.one e)))))
      (λ e. ap Some e ∙ sym (ap parent_list_of (s ∙ ap (with_parent x) (after_one g l y (λ q. t.some-second e (h.second ∙ q)) (omega (arith, h.second, t.no_edge e)) (omega (arith, h.second, t.second-low e))))))
      (one_or_two n t.few z)

  -- or the row lists no parents
  pub plain-or-none : {n : ℕ} → PlainList l.count a b n → (n ≡ 0 → (a ≡ no_parent) × (b ≡ no_parent)) → Some n ≡ parent_list_of (parents_in width g l p)
  unfolding parents_in
  plain-or-none {n} = go n
    where
      go : (n : ℕ) → PlainList l.count a b n → (n ≡ 0 → (a ≡ no_parent) × (b ≡ no_parent)) → Some n ≡ parent_list_of (parents_in width g l p)
      go zero t z = let e = z refl in rw (sym h.first ∙ e.0, sym h.second ∙ e.1)
      go (suc n) t z = plain-list t (λ e. absurd (omega (arith, e)))

-- the level by the row's third number
pub level-told : {v : ℕ} (width : ℕ) (g : List ℕ) (l : Layout) (p c : ℕ) → c ≡ u32_at (row_in width g l p) (width + 8) → v ≡ cond l.levels (c / 4) no_generation → v ≡ level_in width g l p
unfolding level_in stated_level
level-told width g l p c e f = f ∙ ap (λ (n : ℕ). cond l.levels (n / 4) no_generation) e

-- the numbers of the row as it was read, w being the width
pub numbers-read : {width w : ℕ} {g : List ℕ} {l : Layout} {p : ℕ} {read : List ℕ} {a b : ℕ} → w ≡ width → read ≡ row_in width g l p → a ≡ u32_at read w → b ≡ u32_at read (w + 4) → Numbers width g l p a b
numbers-read {width} {w} {read = read} v e f s = record {
  first = f ∙ (ap (u32_at read) v ∙ ap (λ (z : List ℕ). u32_at z width) e);
  second = s ∙ (ap (λ (n : ℕ). u32_at read (n + 4)) v ∙ ap (λ (z : List ℕ). u32_at z (width + 4)) e);
}

pub third_read : (width : ℕ) (g : List ℕ) (l : Layout) (p : ℕ) {w : ℕ} {read : List ℕ} {c : ℕ} → w ≡ width → read ≡ row_in width g l p → c ≡ u32_at read (w + 8) → c ≡ u32_at (row_in width g l p) (width + 8)
third_read width g l p {w} {read} v e t = t ∙ (ap (λ (n : ℕ). u32_at read (n + 8)) v ∙ ap (λ (z : List ℕ). u32_at z (width + 8)) e)
