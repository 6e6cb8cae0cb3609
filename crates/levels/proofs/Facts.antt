-- A cycle leaves no levels, since they fall along a link; a level is at most the number of nodes; and the turns of a search are linear. Assumes nothing.
use mathlib.Core.Path.{◌≡◌, refl, subst}
use Prim.Native.Nat.{ℕ, zero, suc, ◌+◌, ◌*◌, ◌≤◌, ◌<◌}
use native.Mathlib.Omega.{arith}
use borrow.Author.Tests.{eq-eqb}
use Rattle.levels.specs.Levels.{Graph, Fit, level_at, level_of}
use Rattle.levels.specs.Search.{total, turns_of, left}
use Rattle.levels.proofs.Rules.{falls, from_bound}

-- one or more links from a node to an ancestor
pub data Links (g : Graph) : ℕ → ℕ → Type 0 where
  link : {x y : ℕ} (j : ℕ) → x < g.nodes → j < g.count x → g.parent x j ≡ y → Links g x y
  more : {x y z : ℕ} → Links g x y → Links g y z → Links g x z

links_fall : {g : Graph} (f : Fit g) {x y : ℕ} → Links g x y → f.levels y < f.levels x
links_fall {g} f {x} {y} (link j l h e) = subst (λ (z : ℕ). f.levels z < f.levels x) e (falls g f.levels f.rule x j l h)
links_fall f (more a b) = let p = links_fall f a in let q = links_fall f b in omega arith

pub no_cycle : {g : Graph} {x : ℕ} → Links g x x → Fit g → ⊥
no_cycle c f = let h = links_fall f c in omega arith

-- a level fits 30 bits where the nodes do
pub level-low : (g : Graph) (f k : ℕ) → level_at g f k ≤ f
unfolding level_at
level-low g zero k = omega arith
level-low g (suc f) k = from_bound g (level_at g f) k f (λ j h. level-low g f (g.parent k j))

pub levels-low : (g : Graph) (k : ℕ) → level_of g k ≤ g.nodes
unfolding level_of
levels-low g k = level-low g g.nodes k

all_white : (c f : ℕ → ℕ) (n : ℕ) → ((k : ℕ) → k < n → f k ≡ 0) → total (λ k. turns_of (c k) (f k)) n ≡ total c n + 2 * n
unfolding total
all_white c f zero h = refl
all_white c f (suc n) h = rw (eq-eqb (f n) 0 (h n (omega arith))) (omega (arith, all_white c f n (λ k l. h k (omega arith))))

-- the turns left at the start, and each turn leaves fewer (Turns, `on`): all links and three for each node
pub turns_in_all : (g : Graph) (f : ℕ → ℕ) → ((k : ℕ) → k < g.nodes → f k ≡ 0) → left g f 0 ≡ total g.count g.nodes + 3 * g.nodes
unfolding left
turns_in_all g f z = let t = all_white g.count f g.nodes z in omega arith
