-- Laws of the places in a line that names a person. The first place of a byte is the one with none before it, the last the one with
-- none after it; and a place lies in the list. Assumes nothing.
use Rattle.std.specs.Prelude.{None, Option, Some, MatchOption}
use mathlib.Core.Path.{◌≡◌, refl, sym, ap}
use mathlib.Core.List.{List, [], ◌∷◌}
use mathlib.Core.Bool.{Bool, true, false, cond}
use Prim.Native.Nat.{ℕ, zero, suc, ◌+◌, ◌≤◌, ◌<◌}
use native.Mathlib.Numerals.{add-one}
use native.Mathlib.Omega.{arith}
use lib.ListN.{length, get_or, drop}
use lib.Dec.{eqb}
use borrow.Author.Tests.{eq-eqb, ne_eqb}
use Rattle.hash.specs.Bytes.{if_some}
use Rattle.actor.specs.Person.{further, first_of, last_of, has_email, spaced, line_seconds}
use Rattle.hash.proofs.Tests.{no-some}

-- the first place
pub first-here : (c : ℕ) (b : List ℕ) (i : ℕ) → i < length b → get_or b i 0 ≡ c → ((k : ℕ) → k < i → get_or b k 0 ≡ c → ⊥) → first_of c b ≡ Some i
unfolding first_of
first-here c [] i h e n = absurd (omega arith)
first-here c (x ∷ xs) zero h e n = simp (eq-eqb x c e)
first-here c (x ∷ xs) (suc i) h e n =
    simp (ne_eqb x c (n 0 (omega arith))) (ap further (first-here c xs i (omega arith) e (λ k l. n (suc k) (omega arith))))

pub first-nowhere : (c : ℕ) (b : List ℕ) → ((k : ℕ) → k < length b → get_or b k 0 ≡ c → ⊥) → first_of c b ≡ None
unfolding first_of
first-nowhere c [] n = refl
first-nowhere c (x ∷ xs) n =
    simp (ne_eqb x c (n 0 (omega arith))) (ap further (first-nowhere c xs (λ k l. n (suc k) (omega arith))))

-- what a search from the front tells
pub first-found : (c : ℕ) (b : List ℕ) (r : Option ℕ)
    → MatchOption r ((k : ℕ) → k < length b → get_or b k 0 ≡ c → ⊥) (λ i. (i < length b) × (get_or b i 0 ≡ c) × ((k : ℕ) → k < i → get_or b k 0 ≡ c → ⊥))
    → r ≡ first_of c b
first-found c b None n = sym (first-nowhere c b n)
first-found c b (Some i) h = sym (first-here c b i h.0 h.1 h.2)

-- the last place
pub last-nowhere : (c : ℕ) (b : List ℕ) → ((k : ℕ) → k < length b → get_or b k 0 ≡ c → ⊥) → last_of c b ≡ None
unfolding last_of
last-nowhere c [] n = refl
last-nowhere c (x ∷ xs) n =
    rw (last-nowhere c xs (λ k l. n (suc k) (omega arith)), ne_eqb x c (n 0 (omega arith)))

pub last-here : (c : ℕ) (b : List ℕ) (i : ℕ) → i < length b → get_or b i 0 ≡ c → ((k : ℕ) → i < k → k < length b → get_or b k 0 ≡ c → ⊥) → last_of c b ≡ Some i
unfolding last_of
last-here c [] i h e n = absurd (omega arith)
last-here c (x ∷ xs) zero h e n =
    rw (last-nowhere c xs (λ k l. n (suc k) (omega arith) (omega arith)), eq-eqb x c e)
last-here c (x ∷ xs) (suc i) h e n =
    rw (last-here c xs i (omega arith) e (λ k l m. n (suc k) (omega arith) (omega arith)))

-- what a search from the back tells
pub last-found : (c : ℕ) (b : List ℕ) (r : Option ℕ)
    → MatchOption r ((k : ℕ) → k < length b → get_or b k 0 ≡ c → ⊥) (λ i. (i < length b) × (get_or b i 0 ≡ c) × ((k : ℕ) → i < k → k < length b → get_or b k 0 ≡ c → ⊥))
    → r ≡ last_of c b
last-found c b None n = sym (last-nowhere c b n)
last-found c b (Some i) h = sym (last-here c b i h.0 h.1 h.2)

-- a place lies in the list
pub first_below : (c : ℕ) (b : List ℕ) (k : ℕ) → first_of c b ≡ Some k → k < length b
unfolding first_of
first_below c [] k e = no-some e
first_below c (x ∷ xs) k e = go (eqb x c) (first_of c xs) e (first_below c xs)
  where
    go : (t : Bool) (o : Option ℕ) → cond t (Some 0) (further o) ≡ Some k → ((j : ℕ) → o ≡ Some j → j < length xs) → k < suc (length xs)
    go true o e f = let z : 0 ≡ k = cc in omega arith
    go false None e f = no-some e
    go false (Some j) e f = let h = f j refl in let z : suc j ≡ k = cc in omega arith

pub last_below : (c : ℕ) (b : List ℕ) (k : ℕ) → last_of c b ≡ Some k → k < length b
unfolding last_of
last_below c [] k e = no-some e
last_below c (x ∷ xs) k e = go (eqb x c) (last_of c xs) e (last_below c xs)
  where
    go : (t : Bool) (o : Option ℕ) → if_some o (cond t (Some 0) None) (λ j. Some (suc j)) ≡ Some k → ((j : ℕ) → o ≡ Some j → j < length xs) → k < suc (length xs)
    go true None e f = let z : 0 ≡ k = cc in omega arith
    go false None e f = no-some e
    go t (Some j) e f = let h = f j refl in let z : suc j ≡ k = cc in omega arith
