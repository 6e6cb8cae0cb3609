-- The first fault: it goes on by one answer at a time, and once there it stays. Assumes nothing.
use Rattle.std.specs.Prelude.{None, Option, Result, Some}
use Rattle.feed.specs.declared.Feed.{Feed}
use mathlib.Core.Path.{◌≡◌, refl, sym, ◌∙◌, ap, subst}
use Prim.Native.Nat.{ℕ, zero, suc, ◌+◌, ◌-◌, ◌≤◌}
use mathlib.Core.List.{List, [], ◌∷◌, ◌++◌}
use native.Mathlib.Omega.{arith}
use lib.ListN.{length}
use Rattle.hash.specs.Bytes.{Id, if_some}
use Rattle.hash.proofs.Tests.{no-some}
use Rattle.walk.specs.declared.Refusal.{Refusal}
use Rattle.walk.specs.Opening.{Input}
use Rattle.walk.specs.Next.{Kind, end, refused, handed, Answer}
use Rattle.walk.specs.Calls.{answer_at_call, answers}
use Rattle.walk.specs.AnyInput.{handed_by, handed_ids}
use Rattle.walk.specs.Demand.{Hands, no_more-calls, hands, ends}
use Rattle.driver.proofs.OneMore.{answers-more}
use Rattle.reports.specs.Report.{fault_in, fault_by, first_fault}
use Rattle.reports.specs.Demand.{fault_over}

-- the first of two
abbrev pub first_of : Option Refusal → Option Refusal → Option Refusal
first_of p q = if_some p q (λ r. Some r)

first_assoc : (p q r : Option Refusal) → first_of p (first_of q r) ≡ first_of (first_of p q) r
first_assoc None q r = refl
first_assoc (Some x) q r = refl

pub first-last : (p : Option Refusal) → first_of p None ≡ p
first-last None = refl
first-last (Some r) = refl

pub fault_more : (f : Id → Result Feed Refusal) (l : List Answer) (a : Answer) → first_fault f (l ++ (a ∷ [])) ≡ first_of (first_fault f l) (fault_by f a.kind)
unfolding first_fault
fault_more f [] a = first-last (fault_by f a.kind)
fault_more f (b ∷ l) a = ap (first_of (fault_by f b.kind)) (fault_more f l a) ∙ first_assoc (fault_by f b.kind) (first_fault f l) (fault_by f a.kind)

pub fault_call : (f : Id → Result Feed Refusal) (i : Input) (k : ℕ) → first_fault f (answers i (suc k)) ≡ first_of (first_fault f (answers i k)) (fault_by f (answer_at_call i k).kind)
fault_call f i k = ap (first_fault f) (answers-more i k) ∙ fault_more f (answers i k) (answer_at_call i k)

fault_on : (f : Id → Result Feed Refusal) (i : Input) (r : Refusal) (k d : ℕ) → first_fault f (answers i k) ≡ Some r → first_fault f (answers i (k + d)) ≡ Some r
fault_on f i r k zero e = let z : k ≡ k + 0 = omega arith in subst (λ (n : ℕ). first_fault f (answers i n) ≡ Some r) z e
fault_on f i r k (suc d) e =
    let z : suc (k + d) ≡ k + suc d = omega arith in
    subst (λ (n : ℕ). first_fault f (answers i n) ≡ Some r) z
    (fault_call f i (k + d) ∙ ap (λ (p : Option Refusal). first_of p (fault_by f (answer_at_call i (k + d)).kind)) (fault_on f i r k d e))

-- a fault among k answers is the first among any more
pub fault_stays : (f : Id → Result Feed Refusal) (i : Input) (r : Refusal) (k n : ℕ) → k ≤ n → first_fault f (answers i k) ≡ Some r → first_fault f (answers i n) ≡ Some r
fault_stays f i r k n h e = let z : k + (n - k) ≡ n = omega arith in subst (λ (j : ℕ). first_fault f (answers i j) ≡ Some r) z (fault_on f i r k (n - k) e)

-- ---- over the commits handed out

two_none : (p q : Option Refusal) → first_of p q ≡ None → (p ≡ None) × (q ≡ None)
two_none None q e = (refl, e)
two_none (Some r) q e = no-some (sym e)

-- where there is none, no commit handed out is faulty
pub none_faulty : (f : Id → Result Feed Refusal) (l : List Answer) → first_fault f l ≡ None → fault_over f (handed_ids l) ≡ None
unfolding first_fault fault_over handed_ids handed_by
none_faulty f [] e = refl
none_faulty f (a ∷ l) e = let k = two_none (fault_by f a.kind) (first_fault f l) e in go a.kind k.0 (none_faulty f l k.1)
  where
    go : (q : Kind) → fault_by f q ≡ None → fault_over f (handed_ids l) ≡ None → fault_over f (handed_by q ++ handed_ids l) ≡ None
    go end b h = h
    go (refused r) b h = h
    go (handed x g t) b h = ap (λ (p : Option Refusal). first_of p (fault_over f (handed_ids l))) b ∙ h

-- where the answers hand out a list and then say end, the first fault is that of the list
pub hands_fault : (f : Id → Result Feed Refusal) {l : List Id} (qs : List Answer) → Hands l qs → length l ≤ length qs → first_fault f qs ≡ fault_over f l
unfolding first_fault fault_over
hands_fault f {l} [] h n = go l n
  where
    go : (k : List Id) → length k ≤ 0 → None ≡ fault_over f k
    go [] g = refl
    go (x ∷ k) g = absurd (omega (arith, g))
hands_fault f (a ∷ qs) (hands {x = x} g t e r) n =
    ap (λ (k : Kind). first_of (fault_by f k) (first_fault f qs)) e ∙ ap (first_of (fault_in (f x))) (hands_fault f qs r (omega (arith, n)))
hands_fault f (a ∷ qs) (ends e r) n = ap (λ (k : Kind). first_of (fault_by f k) (first_fault f qs)) e ∙ hands_fault f qs r (omega arith)
