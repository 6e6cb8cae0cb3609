-- The id in a value is the first bytes that it was made of, at any width that a value has room for. Assumes nothing.
use mathlib.Core.Path.{◌≡◌, ◌∙◌}
use Prim.Native.Nat.{ℕ, ◌≤◌}
use mathlib.Core.List.{List, ◌++◌}
use lib.ListN.{length, take, replicate}
use lib.Seq.{take-take, take-append-le}
use Rattle.object.specs.Ids.{id_room, id_in, padded}

pub first-bytes : (w : ℕ) → w ≤ id_room → (x : List ℕ) → w ≤ length x → id_in w (padded x) ≡ take w x
unfolding id_in padded
first-bytes w small x h = take-take w id_room (x ++ replicate id_room 0) small ∙ take-append-le w x (replicate id_room 0) h
