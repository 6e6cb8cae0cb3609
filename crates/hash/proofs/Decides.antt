-- A test that is known, or that compares two numbers: it tells a fact that goes with what it says. Assumes nothing.
use mathlib.Core.Path.{refl}
use mathlib.Core.Bool.{true, false}
use Prim.Native.Nat.{ℕ, ◌≤◌, ◌<◌}
use native.Mathlib.Omega.{arith}
use lib.Dec.{ltb, leb}
use borrow.Author.Tests.{ltb-true, ltb-false, leb-true, leb-false}
use Rattle.hash.specs.Decides.{Decides}
use Rattle.hash.proofs.Tests.{clash}

pub decided-yes : {P : Type 0} → P → Decides true P
decided-yes h = record { yes = λ e. h; not = λ e. clash refl e }

pub decided-no : {P : Type 0} → (P → ⊥) → Decides false P
decided-no n = record { yes = λ e. clash e refl; not = λ e. n }

pub decided_lt : {P : Type 0} (a b : ℕ) → (a < b → P) → (P → a < b) → Decides (ltb a b) P
decided_lt a b f g = record { yes = λ e. f (ltb-true a b e); not = λ e p. omega (arith, ltb-false a b e, g p) }

pub decided_le : {P : Type 0} (a b : ℕ) → (a ≤ b → P) → (P → a ≤ b) → Decides (leb a b) P
decided_le a b f g = record { yes = λ e. f (leb-true a b e); not = λ e p. omega (arith, leb-false a b e, g p) }
