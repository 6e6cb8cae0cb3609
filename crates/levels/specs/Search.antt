-- The search for levels in lent memory: one number a node, 0 for a node not met, `tag` plus its level for a node that is done, and between the two a node
-- on the path: 512 times one more than the node to go back to (`nodes` where there is none), plus the number of the parent at hand. Assumes nothing.
use Rattle.std.specs.Prelude.{◌≡◌, ℕ, zero, suc, ◌+◌, ◌-◌, ◌/◌, ◌%◌, ◌≤◌, ◌<◌, cond, length, get_or, set, eqb, ltb, leb, Result, Ok, Err}
use mathlib.Core.List.{List, [], ◌∷◌, Memᴰ}
use Rattle.levels.specs.Levels.{Graph, Fit, level_from, most, level_of, fit}
use Rattle.levels.specs.declared.Turn.{Turn}
use Rattle.levels.specs.declared.Turn.TheVariants.{On, All, Unfit}
use Rattle.levels.specs.declared.LevelsError.{LevelsError}
use Rattle.levels.specs.declared.LevelsError.TheVariants.{NoLevels, Short}

abbrev pub Mem : ℕ → List ℕ → Type 0
Mem k l = Memᴰ k l

-- the most nodes for which the packing is right
abbrev pub most_nodes : ℕ
most_nodes = 1048576

abbrev pub tag : ℕ
tag = 2147483648

abbrev pub back_of : ℕ → ℕ
back_of v = v / 512 - 1

abbrev pub hand_of : ℕ → ℕ
hand_of v = v % 512

-- sum of f over the nodes below n
unfoldable pub total : (ℕ → ℕ) → ℕ → ℕ
total f zero = 0
total f (suc n) = total f n + f n

-- how many nodes are done
abbrev pub is_done : ℕ → ℕ
is_done v = cond (leb tag v) 1 0

abbrev pub done_in : Graph → (ℕ → ℕ) → ℕ
done_in g f = total (λ k. is_done (f k)) g.nodes

-- the turns that a node can still take: a link or a change of colour each
abbrev pub turns_of : ℕ → ℕ → ℕ
turns_of c v = cond (eqb v 0) (c + 2) (cond (ltb v tag) (c - hand_of v + 1) 0)

-- the turns that are left: at the start, links + 3 · nodes
unfoldable pub left : Graph → (ℕ → ℕ) → ℕ → ℕ
left g f root = total (λ k. turns_of (g.count k) (f k)) g.nodes + (g.nodes - root)

-- a node that is done: its parents are done, and its level is right
pub record DoneAt (g : Graph) (f : ℕ → ℕ) (k : ℕ) : Type 0 where
  pub few : g.count k ≤ 256
  pub present : (j : ℕ) → j < g.count k → g.parent k j < g.nodes
  pub before : (j : ℕ) → j < g.count k → tag ≤ f (g.parent k j)
  pub level : f k ≡ tag + level_from g (λ p. f p - tag) k
  pub small : level_from g (λ p. f p - tag) k ≤ done_in g f

-- a node on the path: the parents before the one at hand are done
pub record PathAt (g : Graph) (f : ℕ → ℕ) (a : ℕ) : Type 0 where
  pub low : a < g.nodes
  pub met : 512 ≤ f a
  pub open' : f a < tag
  pub hand : hand_of (f a) ≤ g.count a
  pub few : hand_of (f a) ≤ 256
  pub present : (j : ℕ) → j < hand_of (f a) → g.parent a j < g.nodes
  pub before : (j : ℕ) → j < hand_of (f a) → tag ≤ f (g.parent a j)

-- a is a parent of the first of the others
unfoldable pub Linked : Graph → ℕ → List ℕ → Type 0
Linked g a [] = Unit {0}
Linked g a (b ∷ r) = (j : ℕ) × (j < g.count b) × (g.parent b j ≡ a)

-- the path from its top: each is a parent of the next, and none stands twice
unfoldable pub Chain : Graph → (ℕ → ℕ) → ℕ → List ℕ → Type 0
Chain g f top [] = top ≡ g.nodes
Chain g f top (a ∷ r) = (top ≡ a) × PathAt g f a × (Mem a r → ⊥) × Linked g a r × Chain g f (back_of (f a)) r

-- the search's invariant. f is the memory, top the node at hand (`nodes`: none), the nodes below root have been met
pub record Search (g : Graph) (f : ℕ → ℕ) (top root : ℕ) : Type 0 where
  pub fits : g.nodes ≤ most_nodes
  pub path : List ℕ
  pub chain : Chain g f top path
  pub all : (k : ℕ) → k < g.nodes → 0 < f k → f k < tag → Mem k path
  pub done : (k : ℕ) → k < g.nodes → tag ≤ f k → DoneAt g f k
  pub early : root ≤ g.nodes
  pub roots : (k : ℕ) → k < root → 0 < f k

-- the memory
abbrev pub at : List ℕ → ℕ → ℕ
at s k = get_or s k 0

-- what a turn of the search does to a memory s. Where the search's invariant held: it holds again with fewer turns left; or all nodes have their levels; or
-- there are no levels
pub record Turns (g : Graph) (s s' : List ℕ) (top root : ℕ) (r : Turn) : Type 0 where
  pub kept : (k : ℕ) → g.nodes ≤ k → at s' k ≡ at s k
  pub on : (top' root' : ℕ) → r ≡ On top' root' → Search g (at s) top root → Search g (at s') top' root' × (left g (at s') root' < left g (at s) root)
  pub ends : r ≡ All → Search g (at s) top root → (k : ℕ) → k < g.nodes → DoneAt g (at s') k
  pub bad : r ≡ Unfit → Search g (at s) top root → Fit g → ⊥

-- ---- the whole

-- the answer: Short where the levels are too few or the nodes too many
unfoldable pub answer_of : Graph → ℕ → Result (Unit {0}) LevelsError
answer_of g n = cond (ltb n g.nodes) (Err Short) (cond (ltb most_nodes g.nodes) (Err Short) (cond (fit g) (Ok tt) (Err NoLevels)))

pub record Levels (g : Graph) (s s' : List ℕ) (r : Result (Unit {0}) LevelsError) : Type 0 where
  pub answer : r ≡ answer_of g (length s)
  pub levels : r ≡ (Ok tt) → (k : ℕ) → k < g.nodes → at s' k ≡ tag + level_of g k
  pub kept : (k : ℕ) → g.nodes ≤ k → at s' k ≡ at s k
  pub short : r ≡ (Err Short) → s' ≡ s

-- v is stored at k if it fits, and nothing else changes
pub record Puts (s s' : List ℕ) (k v : ℕ) : Type 0 where
  pub fits : v < 4294967296 → s' ≡ set s k v
  pub other : (j : ℕ) → (j ≡ k → ⊥) → at s' j ≡ at s j

-- the greatest level among the first c parents of k
pub record Greatest (g : Graph) (s : List ℕ) (k c r : ℕ) : Type 0 where
  pub is : c ≤ 256 → c ≤ g.count k → r ≡ most (λ j. at s (g.parent k j) - tag) c
  pub fits : r < 4294967296

-- zeros below n, and nothing else changes
pub record Cleared (n : ℕ) (s s' : List ℕ) : Type 0 where
  pub zeros : (k : ℕ) → k < n → at s' k ≡ 0
  pub kept : (k : ℕ) → n ≤ k → at s' k ≡ at s k

-- the loop of the search
pub record Going (g : Graph) (s₀ s : List ℕ) (top root : ℕ) : Type 0 where
  pub search' : Search g (at s) top root
  pub kept : (k : ℕ) → g.nodes ≤ k → at s k ≡ at s₀ k
  pub size : length s ≡ length s₀
