-- The first refusal among answers goes on by one answer at a time, and once there it stays. Assumes nothing.
use mathlib.Core.Path.{◌≡◌, refl, ◌∙◌, ap, subst}
use Prim.Native.Nat.{ℕ, zero, suc, ◌+◌, ◌-◌, ◌≤◌}
use mathlib.Core.List.{List}
use native.Mathlib.Omega.{arith}
use Rattle.walk.specs.declared.Refusal.{Refusal}
use Rattle.walk.specs.declared.Outcome.{Outcome}
use Rattle.walk.specs.declared.Outcome.TheVariants.{Commit, End, Refused}
use Rattle.walk.specs.Opening.{Input}
use Rattle.walk.specs.Calls.{answer_at_call, answers}
use Rattle.walk.specs.Given.{outcome_of}
use Rattle.tally.specs.Tally.{reason_after}
use Rattle.driver.proofs.OneMore.{answers-more}
use Rattle.lister.specs.Walked.{first_refusal}
use Rattle.lister.proofs.OneMore.{first_more}

pub first-call : (i : Input) (k : ℕ) → first_refusal (answers i (suc k)) ≡ reason_after (first_refusal (answers i k)) (outcome_of (answer_at_call i k).kind)
first-call i k = ap first_refusal (answers-more i k) ∙ first_more (answers i k) (answer_at_call i k)

kept : (r : Refusal) (o : Outcome) → reason_after (Refused r) o ≡ Refused r
kept r Commit = refl
kept r End = refl
kept r (Refused q) = refl

first_on : (i : Input) (r : Refusal) (k d : ℕ) → first_refusal (answers i k) ≡ Refused r → first_refusal (answers i (k + d)) ≡ Refused r
first_on i r k zero e = let z : k ≡ k + 0 = omega arith in subst (λ (n : ℕ). first_refusal (answers i n) ≡ Refused r) z e
first_on i r k (suc d) e =
    let z : suc (k + d) ≡ k + suc d = omega arith in
    subst (λ (n : ℕ). first_refusal (answers i n) ≡ Refused r) z
    (first-call i (k + d) ∙ ap (λ (o : Outcome). reason_after o (outcome_of (answer_at_call i (k + d)).kind)) (first_on i r k d e) ∙ kept r (outcome_of (answer_at_call i (k + d)).kind))

-- a refusal that is the first among k answers is the first among any more
pub first-stays : (i : Input) (r : Refusal) (k n : ℕ) → k ≤ n → first_refusal (answers i k) ≡ Refused r → first_refusal (answers i n) ≡ Refused r
first-stays i r k n h e = let z : k + (n - k) ≡ n = omega arith in subst (λ (j : ℕ). first_refusal (answers i j) ≡ Refused r) z (first_on i r k (n - k) e)
