-- Counts one commit more: the count of its term goes up by one, and each other stays. Assumes nothing.
use Rattle.std.specs.Prelude.{None, Option, Some}
use mathlib.Core.Path.{◌≡◌, refl, sym, ◌∙◌, ap}
use Prim.Native.Nat.{ℕ, zero, suc, ◌+◌}
use mathlib.Core.Bool.{Bool, cond}
use mathlib.Core.List.{List, [], ◌∷◌, ◌++◌}
use native.Mathlib.Omega.{arith}
use lib.ListN.{length}
use lib.Dec.{eqb, eqb-zero-suc, eqb-suc-zero, eqb-suc-suc}
use Rattle.hash.specs.Bytes.{Id}
use Rattle.walk.specs.Calls.{up_to}
use Rattle.tally.specs.Terms.{term_of, bumped, counts_at, outside_at, zeros}
use Rattle.termsreport.specs.Counts.{one_in, one_outside, count_in, count_outside, counts_in}

-- ---- n counts

pub counts_same : (f g : ℕ → ℕ) → ((k : ℕ) → f k ≡ g k) → (n : ℕ) → up_to f n ≡ up_to g n
unfolding up_to
counts_same f g e zero = refl
counts_same f g e (suc n) = ap (λ (a : ℕ). a ∷ up_to (λ k. f (suc k)) n) (e zero) ∙ ap (λ (l : List ℕ). g zero ∷ l) (counts_same (λ k. f (suc k)) (λ k. g (suc k)) (λ k. e (suc k)) n)

pub counts-long : (f : ℕ → ℕ) (n : ℕ) → length (up_to f n) ≡ n
unfolding up_to
counts-long f zero = refl
counts-long f (suc n) = ap suc (counts-long (λ k. f (suc k)) n)

zeros_up : (n : ℕ) → zeros n ≡ up_to (λ k. 0) n
unfolding up_to
zeros_up zero = refl
zeros_up (suc n) = ap (λ (l : List ℕ). 0 ∷ l) (zeros_up n)

-- one more in place j
bump_up : (f : ℕ → ℕ) (n j : ℕ) → bumped (up_to f n) j ≡ up_to (λ k. f k + one_in k (Some j)) n
unfolding up_to bumped
bump_up f zero j = refl
bump_up f (suc n) zero =
    ap (λ (l : List ℕ). (f zero + 1) ∷ l)
    (counts_same (λ k. f (suc k)) (λ k. f (suc k) + one_in (suc k) (Some zero))
    (λ k. let z : ◌≡◌ {A = ℕ} (cond (eqb zero (suc k)) 1 0) 0 = ap (λ (b : Bool). cond b 1 0) (eqb-zero-suc k) in omega (arith, z)) n)
bump_up f (suc n) (suc j) =
    let z : ◌≡◌ {A = ℕ} (cond (eqb (suc j) zero) 1 0) 0 = ap (λ (b : Bool). cond b 1 0) (eqb-suc-zero j) in
    let y : f zero ≡ f zero + cond (eqb (suc j) zero) 1 0 = omega (arith, z) in
    ap (λ (a : ℕ). a ∷ bumped (up_to (λ k. f (suc k)) n) j) y
    ∙ ap (λ (l : List ℕ). (f zero + cond (eqb (suc j) zero) 1 0) ∷ l)
    (bump_up (λ k. f (suc k)) n j
    ∙ counts_same (λ k. f (suc k) + one_in k (Some j)) (λ k. f (suc k) + one_in (suc k) (Some (suc j)))
    (λ k. ap (λ (b : Bool). f (suc k) + cond b 1 0) (sym (eqb-suc-suc j k))) n)

at-counts : (f : ℕ → ℕ) (n : ℕ) (p : Option ℕ) → counts_at (up_to f n) p ≡ up_to (λ k. f k + one_in k p) n
at-counts f n (Some j) = bump_up f n j
at-counts f n None = counts_same f (λ k. f k + 0) (λ k. omega arith) n

at-outside : (n : ℕ) (p : Option ℕ) → outside_at n p ≡ n + one_outside p
at-outside n (Some j) = omega arith
at-outside n None = omega arith

-- ---- one commit more

count-more : (width : ℕ) (terms s : List ℕ) (l : List Id) (x : Id) (k : ℕ) → count_in width terms s (l ++ (x ∷ [])) k ≡ count_in width terms s l k + one_in k (term_of width terms s x)
unfolding count_in
count-more width terms s [] x k = omega arith
count-more width terms s (y ∷ l) x k = omega (arith, count-more width terms s l x k)

outside-more : (width : ℕ) (terms s : List ℕ) (l : List Id) (x : Id) → count_outside width terms s (l ++ (x ∷ [])) ≡ count_outside width terms s l + one_outside (term_of width terms s x)
unfolding count_outside
outside-more width terms s [] x = omega arith
outside-more width terms s (y ∷ l) x = omega (arith, outside-more width terms s l x)

pub none-counted : (width : ℕ) (terms s : List ℕ) (n : ℕ) → zeros n ≡ counts_in width terms s [] n
unfolding count_in
none-counted width terms s n = zeros_up n ∙ counts_same (λ k. 0) (count_in width terms s []) (λ k. refl) n

pub counts-at : (width : ℕ) (terms s : List ℕ) (l : List Id) (x : Id) (n : ℕ) → counts_at (counts_in width terms s l n) (term_of width terms s x) ≡ counts_in width terms s (l ++ (x ∷ [])) n
counts-at width terms s l x n =
    at-counts (count_in width terms s l) n (term_of width terms s x)
    ∙ counts_same (λ k. count_in width terms s l k + one_in k (term_of width terms s x)) (count_in width terms s (l ++ (x ∷ []))) (λ k. sym (count-more width terms s l x k)) n

pub outside-at : (width : ℕ) (terms s : List ℕ) (l : List Id) (x : Id) → outside_at (count_outside width terms s l) (term_of width terms s x) ≡ count_outside width terms s (l ++ (x ∷ []))
outside-at width terms s l x = at-outside (count_outside width terms s l) (term_of width terms s x) ∙ sym (outside-more width terms s l x)
