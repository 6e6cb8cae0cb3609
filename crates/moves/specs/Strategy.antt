-- The same game by strategies: a choice of parent for every commit and number of moves left where the cone moves. Every play against it reaches the
-- list. Assumes nothing.
use Rattle.std.specs.Prelude.{ℕ, zero, suc, ◌≡◌, ◌⊎◌, Bool, true, false, List, [], ◌∷◌}
use Rattle.hash.specs.Bytes.{Id, among}
use Rattle.walk.specs.Lookup.{World}
use Rattle.walk.specs.Reach.{Mem, links}

-- the cone's choice with so many moves left: a parent wherever there is one
pub record Strategy (w : World) : Type 0 where
  pub choice : ℕ → Id → Id
  pub lawful : (d : ℕ) (x : Id) → (links w x ≡ []) ⊎ Mem (choice d x) (links w x)

-- the plays from x against a strategy, with who is to move (true: the bed) and the moves left, as the commits that the trace passes: no move is left; there is
-- no parent; the cone moves as the strategy says; the bed moves as it likes
pub data Play (w : World) (s : Strategy w) : Bool → ℕ → Id → List Id → Type 0 where
  over : {bed : Bool} {x : Id} → Play w s bed 0 x (x ∷ [])
  stuck : {bed : Bool} {d : ℕ} {x : Id} → links w x ≡ [] → Play w s bed (suc d) x (x ∷ [])
  cone-moves : {d : ℕ} {x : Id} {l : List Id} → Mem (s.choice (suc d) x) (links w x) → Play w s true d (s.choice (suc d) x) l → Play w s false (suc d) x (x ∷ l)
  bed-moves : {d : ℕ} {x p : Id} {l : List Id} → Mem p (links w x) → Play w s false d p l → Play w s true (suc d) x (x ∷ l)

-- the trace reaches a commit on the list
pub record Meets (list l : List Id) : Type 0 where
  pub commit : Id
  pub passed : Mem commit l
  pub listed : among commit list ≡ true

-- "the cone can force it however the bed chooses"
pub record Forces (w : World) (list : List Id) (bed : Bool) (d : ℕ) (x : Id) : Type 0 where
  pub strategy : Strategy w
  pub meets : (l : List Id) → Play w strategy bed d x l → Meets list l
