-- The ids of a list from one place on: what a loop over a list goes by. The id at place k stands before those from k + 1 on.
-- Assumes nothing.
use mathlib.Core.Path.{◌≡◌, ◌∙◌, ap}
use Prim.Native.Nat.{ℕ, suc, ◌+◌, ◌*◌, ◌-◌, ◌/◌, ◌<◌, ◌≤◌}
use mathlib.Core.Bool.{true, false}
use mathlib.Core.List.{List, [], ◌∷◌}
use native.Mathlib.Omega.{arith}
use native.Mathlib.Nat.{mul-zero}
use lib.ListN.{length, drop}
use lib.Seq.{drop-drop}
use Rattle.hash.specs.Bytes.{Id, at, ids_of}
use Rattle.walk.specs.Opening.{list_ids}

-- of n ids those from number k on
unfoldable pub ids_from : ℕ → ℕ → ℕ → List ℕ → List Id
ids_from w n k b = ids_of w (n - k) (drop (w * k) b)

pub ids-start : (w : ℕ) (b : List ℕ) → ids_from w (length b / w) 0 b ≡ list_ids w b
unfolding ids_from list_ids
ids-start w b = let m : length b / w - 0 ≡ length b / w = omega arith in ap (λ (j : ℕ). ids_of w (length b / w - 0) (drop j b)) (mul-zero w) ∙ ap (λ (j : ℕ). ids_of w j b) m

module _ (w : ℕ) (b : List ℕ) (n k : ℕ) where
  pub ids_next : k < n → ids_from w n k b ≡ at b (w * k) w ∷ (ids_from w) n (k + 1) b
  unfolding ids_from ids_of at
  ids_next h =
      let m : n - k ≡ suc (n - (k + 1)) = omega arith in
      let d : w * k + w ≡ w * (k + 1) = omega arith in
      rw (m, drop-drop, d)

  pub ids-end : n ≤ k → ids_from w n k b ≡ []
  unfolding ids_from ids_of
  ids-end h = let m : n - k ≡ 0 = omega arith in rw m
