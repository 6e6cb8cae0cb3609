-- The counts add up, since each commit is in one term or outside all: where each term has a place. Past the terms there is nothing to count.
-- Assumes nothing.
use Rattle.std.specs.Prelude.{None, Option, Some}
use mathlib.Core.Path.{◌≡◌, refl, sym, ◌∙◌, ap}
use Prim.Native.Nat.{ℕ, zero, suc, ◌+◌, ◌/◌, ◌≤◌, ◌<◌}
use mathlib.Core.Bool.{Bool, true, false, cond}
use mathlib.Core.List.{List, [], ◌∷◌}
use native.Mathlib.Omega.{arith}
use lib.ListN.{length}
use lib.Dec.{ltb, eqb, eqb-zero-suc, eqb-suc-zero, eqb-suc-suc}
use lib.IntN.{ℤ}
use borrow.Author.Tests.{ltb-true, ne_eqb}
use Rattle.hash.specs.Bytes.{Id, if_some}
use Rattle.calendar.specs.Terms.{term_at}
use Rattle.walk.specs.Calls.{up_to}
use Rattle.walk.specs.Lookup.{world_of, store_seconds}
use Rattle.tally.specs.Terms.{spot_at, term_of}
use Rattle.termsreport.specs.Counts.{one_in, one_outside, count_in, count_outside, counts_in, sum}
use Rattle.termsreport.proofs.Counts.{counts_same}

-- ---- sums

sum-plus : (f g : ℕ → ℕ) (n : ℕ) → sum (up_to (λ k. f k + g k) n) ≡ sum (up_to f n) + sum (up_to g n)
unfolding up_to sum
sum-plus f g zero = refl
sum-plus f g (suc n) = omega (arith, sum-plus (λ k. f (suc k)) (λ k. g (suc k)) n)

sum_zeros : (f : ℕ → ℕ) → ((k : ℕ) → f k ≡ 0) → (n : ℕ) → sum (up_to f n) ≡ 0
unfolding up_to sum
sum_zeros f e zero = refl
sum_zeros f e (suc n) = omega (arith, e zero, sum_zeros (λ k. f (suc k)) (λ k. e (suc k)) n)

-- a commit of term j is counted once, where there is a place for j
sum_one : (n j : ℕ) → j < n → sum (up_to (λ k. one_in k (Some j)) n) ≡ 1
unfolding up_to sum
sum_one zero j h = absurd (omega (arith, h))
sum_one (suc n) zero h = let z = sum_zeros (λ k. one_in (suc k) (Some zero)) (λ k. ap (λ (b : Bool). cond b 1 0) (eqb-zero-suc k)) n in omega (arith, z)
sum_one (suc n) (suc j) h =
    let z : ◌≡◌ {A = ℕ} (cond (eqb (suc j) zero) 1 0) 0 = ap (λ (b : Bool). cond b 1 0) (eqb-suc-zero j) in
    let y : sum (up_to (λ k. one_in (suc k) (Some (suc j))) n) ≡ sum (up_to (λ k. one_in k (Some j)) n) =
    ap sum (counts_same (λ k. one_in (suc k) (Some (suc j))) (λ k. one_in k (Some j)) (λ k. ap (λ (b : Bool). cond b 1 0) (eqb-suc-suc j k)) n) in
    omega (arith, z, y, sum_one n j (omega (arith, h)))

-- ---- one commit

-- the number of a term is below that of the terms
abbrev Below : ℕ → Option ℕ → Type 0
Below n p = (j : ℕ) → p ≡ Some j → j < n

outside_below : (n : ℕ) → Below n None
outside_below n j e = let z : ◌≡◌ {A = ℕ} 0 1 = cc in absurd (omega arith)

spot_below : (terms : List ℕ) (t : ℤ) → Below (length terms / 2) (spot_at terms t)
unfolding spot_at
spot_below terms t = go (ltb (term_at terms t) (length terms / 2)) refl
  where
    go : (b : Bool) → ltb (term_at terms t) (length terms / 2) ≡ b → Below (length terms / 2) (cond b (Some (term_at terms t)) None)
    go true h j e = let z : term_at terms t ≡ j = cc in omega (arith, z, ltb-true (term_at terms t) (length terms / 2) h)
    go false h j e = outside_below (length terms / 2) j e

term_below : (width : ℕ) (terms s : List ℕ) (x : Id) → Below (length terms / 2) (term_of width terms s x)
unfolding term_of
term_below width terms s x = go (store_seconds (world_of width s []) x)
  where
    go : (o : Option ℤ) → Below (length terms / 2) (if_some o None (λ t. spot_at terms t))
    go None = outside_below (length terms / 2)
    go (Some t) = spot_below terms t

one_place : (n m : ℕ) (p : Option ℕ) → Below m p → m ≤ n → sum (up_to (λ k. one_in k p) n) + one_outside p ≡ 1
one_place n m (Some j) h g = omega (arith, sum_one n j (omega (arith, h j refl, g)))
one_place n m None h g = omega (arith, sum_zeros (λ k. 0) (λ k. refl) n)

-- no commit is counted past the terms
past_one : (k m : ℕ) (p : Option ℕ) → Below m p → m ≤ k → one_in k p ≡ 0
past_one k m (Some j) b h = ap (λ (t : Bool). cond t 1 0) (ne_eqb j k (λ e. let z = b j refl in absurd (omega (arith, z, h, e))))
past_one k m None b h = refl

-- ---- some commits

pub past-none : (width : ℕ) (terms s : List ℕ) (l : List Id) (k : ℕ) → length terms / 2 ≤ k → count_in width terms s l k ≡ 0
unfolding count_in
past-none width terms s [] k h = refl
past-none width terms s (x ∷ l) k h = omega (arith, past_one k (length terms / 2) (term_of width terms s x) (term_below width terms s x) h, past-none width terms s l k h)

pub counts_all : (width : ℕ) (terms s : List ℕ) (l : List Id) (n : ℕ) → length terms / 2 ≤ n → sum (counts_in width terms s l n) + count_outside width terms s l ≡ length l
unfolding count_in count_outside
counts_all width terms s [] n h = omega (arith, sum_zeros (count_in width terms s []) (λ k. refl) n)
counts_all width terms s (x ∷ l) n h =
    let a : sum (up_to (count_in width terms s (x ∷ l)) n) ≡ sum (up_to (λ k. one_in k (term_of width terms s x)) n) + sum (up_to (count_in width terms s l) n) =
    ap sum (counts_same (count_in width terms s (x ∷ l)) (λ k. one_in k (term_of width terms s x) + count_in width terms s l k) (λ k. refl) n) ∙ sum-plus (λ k. one_in k (term_of width terms s x)) (count_in width terms s l) n in
    omega (arith, a, one_place n (length terms / 2) (term_of width terms s x) (term_below width terms s x) h, counts_all width terms s l n h)
