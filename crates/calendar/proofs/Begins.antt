-- The search among terms: what is left shrinks between a term that has begun and one that has not; and for a good list the one that began
-- last decides. Assumes nothing.
use mathlib.Core.Path.{◌≡◌, refl, sym, ◌∙◌, ap, subst}
use mathlib.Core.Bool.{Bool, true, false, cond, true≢false}
use mathlib.Core.List.{List}
use Prim.Native.Nat.{ℕ, zero, suc, ◌+◌, ◌*◌, ◌-◌, ◌/◌, ◌≤◌, ◌<◌}
use native.Mathlib.Omega.{arith}
use lib.ListN.{length, get_or}
use lib.Dec.{ltb}
use lib.IntN.{ℤ, pos, negsuc, nat_abs}
use lib.Signed.{lt_z}
use mir.Syntax.{w64}
use mir.Val.{SFits, to_z, of_z}
use mir.Facts.{to_z-of_z}
use borrow.Author.Tests.{lt-ltb, ltb-true, ltb-false}
use Rattle.hash.proofs.Tests.{by_cases}
use Rattle.calendar.specs.Months.{first_day, tabled, months}
use Rattle.calendar.specs.Terms.{rise, good_terms, term_at, first_month, last_month}
use Rattle.calendar.specs.Search.{Begun}
use Rattle.calendar.proofs.Rising.{Term, term, found, missed, none_negative}
use Rattle.calendar.proofs.OneTerm.{good-rise}

-- the numbers low to high are left
pub record Left (l : List ℕ) (day low high : ℕ) : Type 0 where
  pub ordered : low ≤ high
  pub within : high ≤ length l / 2
  pub last : 0 < low → first_day (tabled (first_month l (low - 1))) ≤ day
  pub next : high < length l / 2 → day < first_day (tabled (first_month l high))

pub all_left : (l : List ℕ) (day : ℕ) → Left l day 0 (length l / 2)
all_left l day = record { ordered = omega arith; within = omega arith; last = λ h. absurd (omega (arith, h)); next = λ h. absurd (omega (arith, h)) }

module _ {l : List ℕ} {day low high : ℕ} (w : Left l day low high) (mid : ℕ) (h : low ≤ mid) (g : mid < high) where
  pub upward : first_day (tabled (first_month l mid)) ≤ day → Left l day (mid + 1) high
  upward e = let z : mid + 1 - 1 ≡ mid = omega arith in
      record {
        ordered = omega (arith, g);
        within = w.within;
        last = λ p. subst (λ (k : ℕ). first_day (tabled (first_month l k)) ≤ day) (sym z) e;
        next = w.next;
      }

  pub downward : day < first_day (tabled (first_month l mid)) → Left l day low mid
  downward e = record { ordered = h; within = omega (arith, g, w.within); last = w.last; next = λ p. e }

pub one_left : {l : List ℕ} {day low high : ℕ} → Left l day low high → high ≤ low → Begun l day low
one_left {l} {day} {low} {high} w h =
    let e : high ≡ low = omega (arith, h, w.ordered) in
    record {
      within = omega (arith, e, w.within);
      last = w.last;
      next = λ p. subst (λ (k : ℕ). day < first_day (tabled (first_month l k))) e (w.next (omega (arith, e, p)));
    }

-- ---- a good list

in_the_table : (m : ℕ) → m < months → tabled m ≡ m
in_the_table m h = ap (λ (b : Bool). cond b m months) (lt-ltb m months h)

after_it : (m : ℕ) → m < months → tabled (m + 1) ≡ suc m
after_it m h = by_cases (ltb (m + 1) months)
    (λ e. ap (λ (b : Bool). cond b (m + 1) months) e ∙ omega arith)
    (λ e. ap (λ (b : Bool). cond b (m + 1) months) e ∙ omega (arith, h, ltb-false (m + 1) months e))

module _ (l : List ℕ) (good : good_terms l ≡ true) (n k : ℕ) (w : Begun l (n / 86400) k) where
  next-ahead : k < length l / 2 → n / 86400 < first_day (first_month l k)
  next-ahead h = let t = term l 0 (good-rise l good) k h in
      subst (λ (m : ℕ). n / 86400 < first_day m) (in_the_table (first_month l k) (omega (arith, t.first-last, t.last-tabled))) (w.next h)

  pub none-begun : k ≡ 0 → term_at l (pos n) ≡ length l / 2
  none-begun e = missed l 0 n k (good-rise l good) w.within (record { over = λ h. absurd (omega (arith, h, e)); ahead = next-ahead })

  module _ (j : ℕ) (e : k ≡ suc j) where
    t : Term 0 l j
    t = term l 0 (good-rise l good) j (omega (arith, e, w.within))

    begun-last : first_day (first_month l j) ≤ n / 86400
    begun-last = let z : k - 1 ≡ j = omega (arith, e) in
        subst (λ (m : ℕ). first_day m ≤ n / 86400) (ap (λ (i : ℕ). tabled (first_month l i)) z ∙ in_the_table (first_month l j) (omega (arith, t.first-last, t.last-tabled))) (w.last (omega (arith, e)))

    pub still-on : n / 86400 < first_day (tabled (last_month l j + 1)) → term_at l (pos n) ≡ j
    still-on h = found l 0 n j (good-rise l good) (omega (arith, e, w.within)) begun-last (subst (λ (m : ℕ). n / 86400 < first_day m) (after_it (last_month l j) t.last-tabled) h)

    pub over-by-then : first_day (tabled (last_month l j + 1)) ≤ n / 86400 → term_at l (pos n) ≡ length l / 2
    over-by-then h = missed l 0 n k (good-rise l good) w.within (record {
      over = λ p. let z : j ≡ k - 1 = omega (arith, e) in
          subst (λ (m : ℕ). first_day m ≤ n / 86400) (after_it (last_month l j) t.last-tabled ∙ ap (λ (i : ℕ). suc (last_month l i)) z) h;
      ahead = next-ahead;
    })

-- ---- seconds as the code holds them

none_before : (l : List ℕ) (s : ℤ) → lt_z s (pos 0) ≡ true → length l / 2 ≡ term_at l s
none_before l (pos n) e = absurd (omega (arith, ltb-true n 0 e))
none_before l (negsuc n) e = sym (none_negative l n)

natural : (s : ℤ) → lt_z s (pos 0) ≡ false → pos (nat_abs s) ≡ s
natural (pos n) e = refl
natural (negsuc n) e = absurd (true≢false e)

-- seconds as a local holds them
abbrev held : ℤ → ℤ
held x = to_z w64 (of_z w64 x)

module _ (s : ℤ) (f : SFits w64 s) {r : Bool} (e : r ≡ lt_z (held s) (pos 0)) where
  sign : r ≡ lt_z s (pos 0)
  sign = e ∙ ap (λ (z : ℤ). lt_z z (pos 0)) (to_z-of_z f)

  -- before 1970 there is no term
  pub too-early : (l : List ℕ) → r ≡ true → length l / 2 ≡ term_at l s
  too-early l t = none_before l s (sym sign ∙ t)

  pub not_negative : {m : ℕ} → r ≡ false → m ≡ nat_abs (held s) → pos m ≡ s
  not_negative t q = ap pos (q ∙ ap nat_abs (to_z-of_z f)) ∙ natural s (sym sign ∙ t)

-- ---- the last month of term k - 1, where the code finds it

pub last_of_lem : (l : List ℕ) (k : ℕ) → 0 < k → get_or l (k * 2 - 1) 0 ≡ last_month l (k - 1)
last_of_lem l k h = let z : k * 2 - 1 ≡ (k - 1) * 2 + 1 = omega (arith, h) in ap (λ (i : ℕ). get_or l i 0) z
