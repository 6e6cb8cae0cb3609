-- Hiding keeps the order (beside document 02's card 14): what is left by hiding stands as it stood, of any way to run openings that differ in their
-- hidden tips alone. Assumes nothing.
use Rattle.std.specs.Prelude.{ℕ, ◌≤◌, ◌≡◌, ◌↔◌, Bool, cond, not, List, [], ◌∷◌, ◌++◌, length}
use Rattle.hash.specs.Bytes.{Id, among}
use Rattle.walk.specs.Opening.{Input, list_ids, list_limit, width_in}
use Rattle.walk.specs.Reach.{Mem}
use Rattle.reach.specs.Search.{reach_list}
use Rattle.hiding.specs.Hiding.{hiding, Whole, Tested}
use Rattle.hiding.specs.Called.{Walked, ids_handed, SetDown, ids_set_down}

-- the ids of a list that pass a test, in their order
unfoldable pub those : (Id → Bool) → List Id → List Id
those f [] = []
those f (x ∷ xs) = let r = those f xs in cond (f x) (x ∷ r) r

-- no id of the list h reaches x
unfoldable pub not_hidden : Input → List ℕ → Id → Bool
not_hidden i h x = not (among x (reach_list (width_in i) i.store i.graph (list_ids (width_in i) h)))

-- W i is a whole run of an opening with the input i, in whatever way, with memory enough; runs has the ids that it gives, in order
pub record OrderKept (W : Input → Type 0) (runs : (i : Input) → W i → List Id) (i : Input) : Type 0 where
  -- hiding takes runs out of the list with nothing hidden, and moves none: in breadth order, in every time order, under First and with a cutoff
  pub taken_out : (h : List ℕ) → Whole (width_in i) h → Tested (hiding i h)
      → (d : W (hiding i h)) (e : W (hiding i []))
      → runs (hiding i h) d ≡ those (not_hidden i h) (runs (hiding i []) e)
  -- "the runs left by hiding both are exactly those left by the first that are also left by the second", as lists
  pub both : (h k : List ℕ) → Whole (width_in i) h → Whole (width_in i) k → Tested (hiding i (h ++ k))
      → (d : W (hiding i (h ++ k))) (e : W (hiding i h)) (f : W (hiding i k))
      → runs (hiding i (h ++ k)) d ≡ those (λ x. among x (runs (hiding i k) f)) (runs (hiding i h) e)
  -- hiding more takes out what the further tips reach
  pub further : (h k : List ℕ) → Whole (width_in i) h → Whole (width_in i) k → Tested (hiding i (h ++ k))
      → (d : W (hiding i (h ++ k))) (e : W (hiding i h))
      → runs (hiding i (h ++ k)) d ≡ those (not_hidden i k) (runs (hiding i h) e)
  -- "swapping hidden tips, or repeating them within that number, alters no listed run", nor their order
  pub none_moved : (h k : List ℕ) → Whole (width_in i) h → Whole (width_in i) k → length k ≤ list_limit (width_in i) → ((x : Id) → Mem x (list_ids (width_in i) h) ↔ Mem x (list_ids (width_in i) k)) → Tested (hiding i h)
      → (d : W (hiding i h)) (e : W (hiding i k))
      → runs (hiding i h) d ≡ runs (hiding i k) e

-- of an opening and next calls until one says end, and of `list`
pub record HidingKeepsOrder (i : Input) : Type 0 where
  pub of_calls : OrderKept Walked ids_handed i
  pub of_list : OrderKept SetDown ids_set_down i
