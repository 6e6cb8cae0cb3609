-- Levels (git: topological levels, generation number v1) of a graph whose nodes are numbers below `nodes`: the rule, and what makes a graph
-- fit to have them. Everything computes. Assumes nothing.
use Rattle.std.specs.Prelude.{◌≡◌, ℕ, zero, suc, ◌≤◌, ◌<◌, Bool, true, false, cond, eqb, ltb, leb}

-- how many nodes there are, how many parents a node has, and its parents in order. A node whose count is over 256 is crowded or unreadable;
-- a parent that is no node is absent
pub record Graph : Type 0 where
  pub nodes : ℕ
  pub count : ℕ → ℕ
  pub parent : ℕ → ℕ → ℕ

abbrev pub larger : ℕ → ℕ → ℕ
larger a b = cond (ltb a b) b a

-- the greatest of the first c values, 0 if there are none
unfoldable pub most : (ℕ → ℕ) → ℕ → ℕ
most f zero = 0
most f (suc c) = larger (most f c) (f c)

abbrev pub most_parents : ℕ
most_parents = 256

-- the level that a node has, its parents having theirs: "level 1 without parents, else one more than the greatest parent's"
unfoldable pub level_from : Graph → (ℕ → ℕ) → ℕ → ℕ
level_from g lv k = suc (most (λ j. lv (g.parent k j)) (g.count k))

pub record Rule (g : Graph) (lv : ℕ → ℕ) : Type 0 where
  pub is : (k : ℕ) → k < g.nodes → lv k ≡ level_from g lv k

-- each node has at most 256 parents, and each parent is a node
pub record Sound (g : Graph) : Type 0 where
  pub few : (k : ℕ) → k < g.nodes → g.count k ≤ most_parents
  pub present : (k j : ℕ) → k < g.nodes → j < g.count k → g.parent k j < g.nodes

-- not 18
pub record Fit (g : Graph) : Type 0 where
  pub sound : Sound g
  pub levels : ℕ → ℕ
  pub rule : Rule g levels

-- the levels by computing: f rounds from 0. Where levels exist, round f has the smaller of the level and f
unfoldable pub level_at : Graph → ℕ → ℕ → ℕ
level_at g zero k = 0
level_at g (suc f) k = level_from g (level_at g f) k

unfoldable pub level_of : Graph → ℕ → ℕ
level_of g k = level_at g g.nodes k

-- ---- the same as a test

unfoldable pub all_below : (ℕ → Bool) → ℕ → Bool
all_below p zero = true
all_below p (suc n) = let r = p n in cond (all_below p n) r false

unfoldable pub sound_at : Graph → ℕ → Bool
sound_at g k =
    let r : Bool = all_below (λ j. ltb (g.parent k j) g.nodes) (g.count k) in
    cond (leb (g.count k) most_parents) r false

-- one more round changes nothing
unfoldable pub settled_at : Graph → ℕ → Bool
settled_at g k = eqb (level_of g k) (level_from g (level_of g) k)

unfoldable pub fit : Graph → Bool
fit g = let r : Bool = all_below (settled_at g) g.nodes in cond (all_below (sound_at g) g.nodes) r false

unfoldable pub levels_all : Unit {0}
unfolding most level_from level_at level_of all_below sound_at settled_at fit
levels_all = tt
