-- Refusals among answers: none where the answers hand out a list and then say end, and the first of them is an answer's. Assumes nothing.
use mathlib.Core.Path.{◌≡◌, refl, ◌∙◌, ap}
use mathlib.Core.Logic.{◌↔◌}
use Prim.Native.Nat.{ℕ, zero, suc, ◌+◌}
use mathlib.Core.List.{List, [], ◌∷◌}
use native.Mathlib.Omega.{arith}
use Rattle.hash.specs.Bytes.{Id}
use Rattle.walk.specs.declared.Refusal.{Refusal}
use Rattle.walk.specs.declared.Outcome.{Outcome}
use Rattle.walk.specs.declared.Outcome.TheVariants.{End, Refused}
use Rattle.walk.specs.Next.{Kind, end, refused, handed, Answer}
use Rattle.walk.specs.Calls.{up_to}
use Rattle.walk.specs.Demand.{Hands, hands, ends}
use Rattle.lister.specs.Walked.{refused_by, refusals, refusal_or, first_refusal}

-- where the answers hand out a list and then say end, none is a refusal
pub hands_none : {l : List Id} (qs : List Answer) → Hands l qs → (refusals qs ≡ 0) × (first_refusal qs ≡ End)
unfolding refusals first_refusal
hands_none [] h = (refl, refl)
hands_none (a ∷ qs) (hands g t e r) =
    let n = hands_none qs r in
    (omega (arith, ap refused_by e, n.0), ap (λ (k : Kind). refusal_or k (first_refusal qs)) e ∙ n.1)
hands_none (a ∷ qs) (ends e r) =
    let n = hands_none qs r in
    (omega (arith, ap refused_by e, n.0), ap (λ (k : Kind). refusal_or k (first_refusal qs)) e ∙ n.1)

first-none : (k : Kind) (n : ℕ) (o : Outcome) → (n ≡ 0) ↔ (o ≡ End) → (refused_by k + n ≡ 0) ↔ (refusal_or k o ≡ End)
first-none end n o h = (λ z. h.0 (omega (arith, z)), λ z. omega (arith, h.1 z))
first-none (refused r) n o h = (λ z. absurd (omega (arith, z)), λ z. let y : ◌≡◌ {A = ℕ} 0 1 = cc in absurd (omega arith))
first-none (handed x g t) n o h = (λ z. h.0 (omega (arith, z)), λ z. omega (arith, h.1 z))

-- no answer is a refusal exactly where there is no first one
pub none_first : (qs : List Answer) → (refusals qs ≡ 0) ↔ (first_refusal qs ≡ End)
unfolding refusals first_refusal
none_first [] = (λ z. refl, λ z. refl)
none_first (a ∷ qs) = first-none a.kind (refusals qs) (first_refusal qs) (none_first qs)

-- the first refusal is an answer's
pub first_of_lem : (f : ℕ → Answer) (n : ℕ) (r : Refusal) → first_refusal (up_to f n) ≡ Refused r → (k : ℕ) × ((f k).kind ≡ refused r)
unfolding first_refusal up_to
first_of_lem f zero r e = let y : ◌≡◌ {A = ℕ} 0 1 = cc in absurd (omega arith)
first_of_lem f (suc n) r e = go (f zero).kind refl (first_of_lem (λ m. f (suc m)) n r) e
  where
    go : (k : Kind) → (f zero).kind ≡ k → (first_refusal (up_to (λ m. f (suc m)) n) ≡ Refused r → (j : ℕ) × ((f (suc j)).kind ≡ refused r))
        → refusal_or k (first_refusal (up_to (λ m. f (suc m)) n)) ≡ Refused r → (j : ℕ) × ((f j).kind ≡ refused r)
    go end h rec e = let a = rec e in (suc a.0, a.1)
    go (refused q) h rec e = let z : q ≡ r = cc in (zero, h ∙ ap refused z)
    go (handed x g t) h rec e = let a = rec e in (suc a.0, a.1)
