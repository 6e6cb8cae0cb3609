-- Counts: one more in a place leaves their number and the other places, and no count passes the number of calls; and the term of a commit is that of
-- its seconds as they were read. Assumes nothing.
use Rattle.std.specs.Prelude.{None, Option, Result, Some}
use mathlib.Core.Path.{◌≡◌, refl, sym, ◌∙◌, ap}
use Prim.Native.Nat.{ℕ, zero, suc, ◌+◌, ◌/◌, ◌≤◌, ◌<◌}
use mathlib.Core.Bool.{Bool, true, false, cond, not}
use mathlib.Core.List.{List, [], ◌∷◌, ◌++◌}
use native.Mathlib.Omega.{arith}
use lib.ListN.{length, get_or, set, drop, length-set}
use lib.Dec.{ltb}
use lib.IntN.{ℤ}
use borrow.Author.Tests.{lt-ltb, le-ltb}
use Rattle.hash.specs.Bytes.{Id, if_some}
use Rattle.odb.specs.Store.{store_is_ok}
use Rattle.object.specs.Ids.{id_in}
use Rattle.object.specs.Header.{Header}
use Rattle.object.specs.Read.{seconds_read}
use Rattle.calendar.specs.Terms.{rise, good_terms, term_at}
use Rattle.walk.specs.declared.Outcome.{Outcome}
use Rattle.walk.specs.declared.Outcome.TheVariants.{Commit, End, Refused}
use Rattle.walk.specs.Lookup.{world_of, store_seconds}
use Rattle.date.specs.declared.Seconds.{Seconds}
use Rattle.reading.specs.declared.tip.TipError.{TipError}
use Rattle.reading.specs.Tip.{tip_of, tip_seconds, ReadsTip}
use Rattle.reading.proofs.Tips.{tip_right}
use Rattle.tally.specs.declared.Task.{Task}
use Rattle.tally.specs.declared.Task.TheVariants as tasks
use Rattle.tally.specs.Terms.{spot_at, spot_of, term_of, good_part, bumped, counts_at, zeros, FewCounts}
use Rattle.tally.specs.Tally.{counts_after, counts_by}

-- ---- one more

pub length_bumped : (c : List ℕ) (k : ℕ) → length (bumped c k) ≡ length c
unfolding bumped
length_bumped [] k = refl
length_bumped (n ∷ c) zero = refl
length_bumped (n ∷ c) (suc k) = ap suc (length_bumped c k)

pub set_bumped : (c : List ℕ) (k : ℕ) → k < length c → set c k (get_or c k 0 + 1) ≡ bumped c k
unfolding bumped
set_bumped [] k h = absurd (omega (arith, h))
set_bumped (n ∷ c) zero h = refl
set_bumped (n ∷ c) (suc k) h = ap (λ (l : List ℕ). n ∷ l) (set_bumped c k (omega (arith, h)))

pub past-bumped : (c : List ℕ) (k : ℕ) → length c ≤ k → c ≡ bumped c k
unfolding bumped
past-bumped [] k h = refl
past-bumped (n ∷ c) zero h = absurd (omega (arith, h))
past-bumped (n ∷ c) (suc k) h = ap (λ (l : List ℕ). n ∷ l) (past-bumped c k (omega (arith, h)))

few-bumped : (n : ℕ) (c : List ℕ) (k : ℕ) → FewCounts n c → FewCounts (suc n) (bumped c k)
unfolding bumped
few-bumped n [] k h j = omega (arith, h j)
few-bumped n (m ∷ c) zero h zero = omega (arith, h zero)
few-bumped n (m ∷ c) zero h (suc j) = omega (arith, h (suc j))
few-bumped n (m ∷ c) (suc k) h zero = omega (arith, h zero)
few-bumped n (m ∷ c) (suc k) h (suc j) = few-bumped n c k (λ i. h (suc i)) j

few-at : (n : ℕ) (c : List ℕ) (o : Outcome) (p : Option ℕ) → FewCounts n c → FewCounts (suc n) (counts_after c o p)
few-at n c Commit (Some k) h = few-bumped n c k h
few-at n c Commit None h = λ j. omega (arith, h j)
few-at n c End p h = λ j. omega (arith, h j)
few-at n c (Refused r) p h = λ j. omega (arith, h j)

-- ---- of one call more

pub few-counts : (w : ℕ) (task : Task) (terms s : List ℕ) (n : ℕ) (c : List ℕ) (o : Outcome) (x : Id) → FewCounts n c → FewCounts (suc n) (counts_by w task terms s c o x)
few-counts w tasks.Ids terms s n c o x h = λ j. omega (arith, h j)
few-counts w tasks.Feed terms s n c o x h = λ j. omega (arith, h j)
few-counts w tasks.Terms terms s n c o x h = few-at n c o (term_of w terms s (id_in w x)) h

long-at : (c : List ℕ) (o : Outcome) (p : Option ℕ) → length (counts_after c o p) ≡ length c
long-at c Commit (Some k) = length_bumped c k
long-at c Commit None = refl
long-at c End p = refl
long-at c (Refused r) p = refl

pub long-counts : (w : ℕ) (task : Task) (terms s c : List ℕ) (o : Outcome) (x : Id) → length (counts_by w task terms s c o x) ≡ length c
long-counts w tasks.Ids terms s c o x = refl
long-counts w tasks.Feed terms s c o x = refl
long-counts w tasks.Terms terms s c o x = long-at c o (term_of w terms s (id_in w x))

pub few-zeros : (n : ℕ) → FewCounts 0 (zeros n)
few-zeros zero k = omega arith
few-zeros (suc n) zero = omega arith
few-zeros (suc n) (suc k) = few-zeros n k

-- ---- the term of a commit

pub spot_yes : (terms : List ℕ) (t : ℤ) (k : ℕ) → k ≡ term_at terms t → k < length terms / 2 → Some k ≡ spot_at terms t
unfolding spot_at
spot_yes terms t k e h =
    ap Some e ∙ ap (λ (b : Bool). cond b (Some (term_at terms t)) None) (sym (lt-ltb (term_at terms t) (length terms / 2) (omega (arith, e, h))))

pub spot_no : (terms : List ℕ) (t : ℤ) (k : ℕ) → k ≡ term_at terms t → length terms / 2 ≤ k → None ≡ spot_at terms t
unfolding spot_at
spot_no terms t k e h =
    ap (λ (b : Bool). cond b (Some (term_at terms t)) None) (sym (le-ltb (term_at terms t) (length terms / 2) (omega (arith, e, h))))

spot_tip : (terms : List ℕ) (o : Option Header) → spot_of terms (tip_of o) ≡ if_some (if_some o None (λ h. h.seconds)) None (λ t. spot_at terms t)
spot_tip terms None = refl
spot_tip terms (Some h) = go h.seconds
  where
    go : (u : Option ℤ) → spot_of terms (tip_seconds (seconds_read u)) ≡ if_some u None (λ t. spot_at terms t)
    go None = refl
    go (Some v) = refl

pub spot_read : {w : ℕ} (terms : List ℕ) {s : List ℕ} {x : Id} {r : Result Seconds TipError} → ReadsTip w s x r → store_is_ok w s ≡ true → spot_of terms r ≡ term_of w terms s x
unfolding term_of store_seconds
spot_read {w} terms {s} {x} l ok = ap (spot_of terms) (tip_right l ok []) ∙ spot_tip terms ((world_of w s []).store x)

-- ---- a good list

pub nothing-good : good_terms [] ≡ true
unfolding good_terms rise
nothing-good = refl

pub good_none : good_terms [] ≡ true → (l : List ℕ) → good_terms (good_part l) ≡ true
unfolding good_part
good_none z l = go (good_terms l) refl
  where
    go : (b : Bool) → good_terms l ≡ b → good_terms (cond b l []) ≡ true
    go true e = e
    go false e = z

pub good-is : (l : List ℕ) → good_terms l ≡ true → l ≡ good_part l
unfolding good_part
good-is l e = ap (λ (b : Bool). cond b l []) (sym e)

pub bad-is : (l : List ℕ) → good_terms l ≡ false → [] ≡ good_part l
unfolding good_part
bad-is l e = ap (λ (b : Bool). cond b l []) (sym e)

-- ---- all set to 0

-- the first i of n counts are 0, the others as they were
pub record Cleared (n : ℕ) (c₀ c : List ℕ) (i : ℕ) : Type 0 where
  pub low : i ≤ n
  pub all : n ≡ length c₀
  pub long : length c ≡ length c₀
  pub clean : c ≡ zeros i ++ drop i c₀

pub cleared-start : {c : List ℕ} → Cleared (length c) c c 0
cleared-start = record { low = omega arith; all = refl; long = refl; clean = refl }

set_next : (i : ℕ) (c : List ℕ) → i < length c → set (zeros i ++ drop i c) i 0 ≡ zeros (suc i) ++ drop (suc i) c
set_next zero [] h = absurd (omega (arith, h))
set_next zero (x ∷ c) h = refl
set_next (suc i) [] h = absurd (omega (arith, h))
set_next (suc i) (x ∷ c) h = ap (λ (l : List ℕ). 0 ∷ l) (set_next i c (omega (arith, h)))

pub cleared-next : {n : ℕ} {c₀ c : List ℕ} {i : ℕ} → Cleared n c₀ c i → i < n → Cleared n c₀ (set c i 0) (i + 1)
cleared-next {n} {c₀} {c} {i} k h = record {
  low = omega (arith, h);
  all = k.all;
  long = length-set c i 0 ∙ k.long;
  clean =
      let e : suc i ≡ i + 1 = omega arith in
      ap (λ (l : List ℕ). set l i 0) k.clean ∙ set_next i c₀ (omega (arith, h, k.all)) ∙ ap (λ (j : ℕ). zeros j ++ drop j c₀) e;
}

none_left : (c : List ℕ) → zeros (length c) ++ drop (length c) c ≡ zeros (length c)
none_left [] = refl
none_left (x ∷ c) = ap (λ (l : List ℕ). 0 ∷ l) (none_left c)

pub cleared-all : {n : ℕ} {c₀ c : List ℕ} {i : ℕ} → Cleared n c₀ c i → n ≤ i → c ≡ zeros (length c₀)
cleared-all {n} {c₀} {c} {i} k h =
    let e : i ≡ length c₀ = omega (arith, h, k.low, k.all) in
    k.clean ∙ ap (λ (j : ℕ). zeros j ++ drop j c₀) e ∙ none_left c₀
