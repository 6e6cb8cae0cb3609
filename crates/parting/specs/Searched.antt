-- The lent memory after the two searches of card 8 (document 02). Assumes nothing.
use Rattle.std.specs.Prelude.{ℕ, true, false, List, [], ◌∷◌}
use Rattle.hash.specs.Bytes.{Id}
use Rattle.walk.specs.Lookup.{World}
use Rattle.reach.specs.Search.{Reached}
use Rattle.reach.specs.Memory.{Lent, Lists}

-- both searches stand in one memory, the first in the line's first n places
pub record Searched (width : ℕ) (w : World) (a b : Id) (cap : ℕ) (m : Lent) (n : ℕ) (l : List Id) : Type 0 where
  pub one : Lists width false cap 0 m n l
  pub one-reached : Reached w (a ∷ []) l
  pub other-list : List Id
  pub other_from : ℕ
  pub other-count : ℕ
  pub other : Lists width true cap other_from m other-count other-list
  pub other-reached : Reached w (b ∷ []) other-list
