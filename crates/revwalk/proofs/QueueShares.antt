-- What push and pop of the heap share: orders that are the same, and what a shuffle keeps.
use mathlib.Core.Path.{◌≡◌, sym, ◌∙◌, subst}
use mathlib.Core.List.{List}
use mathlib.Core.Bool.{Bool}
use Prim.Native.Nat.{ℕ, ◌+◌, ◌<◌}
use native.Mathlib.Omega.{arith}
use lib.IntN.{ℤ}
use Rattle.revwalk.specs.Order.{at, goes}
use Rattle.revwalk.specs.Sift.{par, Shuffled, Heaped, Up}
use Rattle.revwalk.proofs.QueueOrders.{goes-trans, goes_same}
use Rattle.revwalk.proofs.QueueMoves.{Lawful}

-- what holds of all of f holds of all of g
pub mix_all : {f g : ℕ → ℕ} {n : ℕ} (P : ℕ → Type 0) → Shuffled f g n → ((k : ℕ) → k < n → P (f k)) → (k : ℕ) → k < n → P (g k)
mix_all P m h k l = subst P (sym (m.is k l)) (h (m.to k) (m.to_low k l))

-- an order for another that is the same
pub heap_as : (lt lt' : ℕ → ℕ → Bool) (f : ℕ → ℕ) (n : ℕ) → ((i j : ℕ) → i < n → j < n → lt (f i) (f j) ≡ lt' (f i) (f j)) → Heaped lt f n → Heaped lt' f n
heap_as lt lt' f n e h = record { edges = λ k k0 kn. sym (e (par k) k (omega arith) kn) ∙ h.edges k k0 kn }

pub up_as : (lt lt' : ℕ → ℕ → Bool) (f : ℕ → ℕ) (n i : ℕ) → ((a b : ℕ) → lt a b ≡ lt' a b) → Up lt f n i → Up lt' f n i
up_as lt lt' f n i e u =
    record {
      edges = λ k k0 kn d. sym (e (f (par k)) (f k)) ∙ u.edges k k0 kn d;
      over = λ k k0 kn p h. sym (e (f (par i)) (f k)) ∙ u.over k k0 kn p h;
    }

-- the two orders at lines that have the same numbers
pub goes_as : (newest : Bool) (times : List ℤ) (line line' : List ℕ) (cap : ℕ) → ((s : ℕ) → at line (cap + s) ≡ at line' (cap + s)) → (a b : ℕ) → goes newest times cap line a b ≡ goes newest times cap line' a b
goes_as newest times line line' cap e a b = goes_same newest times line line' cap a b (e a) (e b)

pub lawful : (newest : Bool) (times : List ℤ) (cap : ℕ) → Lawful (goes newest times cap) cap
lawful newest times cap = record { trans = λ line. goes-trans newest times line cap; same = λ line line' e. goes_as newest times line line' cap e }
