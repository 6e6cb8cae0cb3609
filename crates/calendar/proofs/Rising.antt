-- Terms that rise: each lies in the table and after the ones before it, so the one that began last is the only one that may have a day.
-- Assumes nothing.
use mathlib.Core.Path.{◌≡◌, refl, sym, ◌∙◌, ap, subst}
use mathlib.Core.Bool.{Bool, true, false, cond, ◌&&◌}
use mathlib.Core.List.{List, [], ◌∷◌}
use Prim.Native.Nat.{ℕ, zero, suc, ◌+◌, ◌*◌, ◌-◌, ◌/◌, ◌≤◌, ◌<◌}
use native.Mathlib.Omega.{arith}
use lib.ListN.{length, get_or}
use lib.Dec.{leb, ltb}
use lib.IntN.{ℤ, pos, negsuc}
use borrow.Author.Tests.{leb-true, ltb-true}
use Rattle.hash.proofs.Tests.{clash, and_first, and_second, guard_test, guarded}
use Rattle.calendar.specs.Months.{first_day, months}
use Rattle.calendar.specs.Terms.{in_term, fits, rise, term_at, first_month, last_month}
use Rattle.calendar.proofs.Days.{in_order, within, before, after, negative}

-- ---- what a term that fits is

module _ (free a b : ℕ) (t : fits free a b ≡ true) where
  pub not-before : free ≤ a
  unfolding fits
  not-before = leb-true free a (and_first (leb free a) (leb a b) (and_first (leb free a && leb a b) (ltb b months) t))

  pub not-turned : a ≤ b
  unfolding fits
  not-turned = leb-true a b (and_second (leb free a) (leb a b) (and_first (leb free a && leb a b) (ltb b months) t))

  pub tabled-last : b < months
  unfolding fits
  tabled-last = ltb-true b months (and_second (leb free a && leb a b) (ltb b months) t)

-- ---- the months of term k

pub record Term (free : ℕ) (l : List ℕ) (k : ℕ) : Type 0 where
  pub free-first : free ≤ first_month l k
  pub first-last : first_month l k ≤ last_month l k
  pub last-tabled : last_month l k < months

-- a month of a term after the first
pub further : (a b : ℕ) (l : List ℕ) (k : ℕ) → (first_month (a ∷ b ∷ l) (suc k) ≡ first_month l k) × (last_month (a ∷ b ∷ l) (suc k) ≡ last_month l k)
further a b l k =
    let p : suc k * 2 ≡ suc (suc (k * 2)) = omega arith in
    let q : suc k * 2 + 1 ≡ suc (suc (k * 2 + 1)) = omega arith in
    (ap (λ (i : ℕ). get_or (a ∷ b ∷ l) i 0) p, ap (λ (i : ℕ). get_or (a ∷ b ∷ l) i 0) q)

pub term : (l : List ℕ) (free : ℕ) → rise free l ≡ true → (k : ℕ) → k < length l / 2 → Term free l k
unfolding rise
term [] free t k h = absurd (omega (arith, h))
term (a ∷ []) free t k h = absurd (omega (arith, h))
term (a ∷ b ∷ l) free t zero h =
    let f : fits free a b ≡ true = guard_test (fits free a b) (rise (suc b) l) t in
    record { free-first = not-before free a b f; first-last = not-turned free a b f; last-tabled = tabled-last free a b f }
term (a ∷ b ∷ l) free t (suc k) h =
    let f : fits free a b ≡ true = guard_test (fits free a b) (rise (suc b) l) t in
    let r = term l (suc b) (guarded (fits free a b) (rise (suc b) l) t) k (omega (arith, h)) in
    let e = further a b l k in
    record {
      free-first = omega (arith, e.0, r.free-first, not-before free a b f, not-turned free a b f);
      first-last = omega (arith, e.0, e.1, r.first-last);
      last-tabled = omega (arith, e.1, r.last-tabled);
    }

-- ---- the term that has a day

pub found : (l : List ℕ) (free n k : ℕ) → rise free l ≡ true → k < length l / 2 → first_day (first_month l k) ≤ n / 86400 → n / 86400 < first_day (suc (last_month l k)) → term_at l (pos n) ≡ k
unfolding rise term_at
found [] free n k t h p q = absurd (omega (arith, h))
found (a ∷ []) free n k t h p q = absurd (omega (arith, h))
found (a ∷ b ∷ l) free n zero t h p q = rw (within a b n p q) refl
found (a ∷ b ∷ l) free n (suc k) t h p q =
    let e = further a b l k in
    let u : rise (suc b) l ≡ true = guarded (fits free a b) (rise (suc b) l) t in
    let g : k < length l / 2 = omega (arith, h) in
    let s : first_day (first_month l k) ≤ n / 86400 = subst (λ (m : ℕ). first_day m ≤ n / 86400) e.0 p in
    let o : first_day (suc b) ≤ first_day (first_month l k) = in_order (suc b) (first_month l k) (term l (suc b) u k g).free-first in
    let x : term_at l (pos n) ≡ k = found l (suc b) n k u g s (subst (λ (m : ℕ). n / 86400 < first_day (suc m)) e.1 q) in
    ap (λ (c : Bool). cond c 0 (suc (term_at l (pos n)))) (after a b n (omega (arith, o, s))) ∙ ap suc x

-- none has it: the one before number k is over, and number k has not begun
pub record Between (l : List ℕ) (n k : ℕ) : Type 0 where
  pub over : 0 < k → first_day (suc (last_month l (k - 1))) ≤ n / 86400
  pub ahead : k < length l / 2 → n / 86400 < first_day (first_month l k)

pub missed : (l : List ℕ) (free n k : ℕ) → rise free l ≡ true → k ≤ length l / 2 → Between l n k → term_at l (pos n) ≡ length l / 2
unfolding rise term_at
missed [] free n k t h b = refl
missed (a ∷ []) free n k t h b = refl
missed (a ∷ b ∷ l) free n zero t h w =
    let u : rise (suc b) l ≡ true = guarded (fits free a b) (rise (suc b) l) t in
    let f : fits free a b ≡ true = guard_test (fits free a b) (rise (suc b) l) t in
    let now : n / 86400 < first_day a = w.ahead (omega arith) in
    let rest : term_at l (pos n) ≡ length l / 2 = missed l (suc b) n zero u (omega arith) (record {
      over = λ z. absurd (omega (arith, z));
      ahead = λ z. omega (arith, now, in_order a (first_month l 0) (omega (arith, (term l (suc b) u 0 z).free-first, not-turned free a b f)));
    }) in
    ap (λ (c : Bool). cond c 0 (suc (term_at l (pos n)))) (before a b n now) ∙ omega (arith, rest)
missed (a ∷ b ∷ l) free n (suc zero) t h w =
    let u : rise (suc b) l ≡ true = guarded (fits free a b) (rise (suc b) l) t in
    let rest : term_at l (pos n) ≡ length l / 2 = missed l (suc b) n zero u (omega arith) (record {
      over = λ z. absurd (omega (arith, z));
      ahead = λ z. subst (λ (m : ℕ). n / 86400 < first_day m) (further a b l 0).0 (w.ahead (omega (arith, z)));
    }) in
    ap (λ (c : Bool). cond c 0 (suc (term_at l (pos n)))) (after a b n (w.over (omega arith))) ∙ omega (arith, rest)
missed (a ∷ b ∷ l) free n (suc (suc k)) t h w =
    let u : rise (suc b) l ≡ true = guarded (fits free a b) (rise (suc b) l) t in
    let g : suc k ≤ length l / 2 = omega (arith, h) in
    let z : suc (suc k) - 1 ≡ suc k = omega arith in
    let y : suc k - 1 ≡ k = omega arith in
    let last : first_day (suc (last_month l k)) ≤ n / 86400 = subst (λ (m : ℕ). first_day (suc m) ≤ n / 86400) (ap (last_month (a ∷ b ∷ l)) z ∙ (further a b l k).1) (w.over (omega arith)) in
    let r = term l (suc b) u k g in
    let here : first_day (suc b) ≤ n / 86400 = omega (arith, last, in_order (suc b) (suc (last_month l k)) (omega (arith, r.free-first, r.first-last))) in
    let rest : term_at l (pos n) ≡ length l / 2 = missed l (suc b) n (suc k) u g (record {
      over = λ h. subst (λ (j : ℕ). first_day (suc (last_month l j)) ≤ n / 86400) (sym y) last;
      ahead = λ z. subst (λ (m : ℕ). n / 86400 < first_day m) (further a b l (suc k)).0 (w.ahead (omega (arith, z)));
    }) in
    ap (λ (c : Bool). cond c 0 (suc (term_at l (pos n)))) (after a b n here) ∙ omega (arith, rest)

pub none_negative : (l : List ℕ) (n : ℕ) → term_at l (negsuc n) ≡ length l / 2
unfolding term_at
none_negative [] n = refl
none_negative (a ∷ []) n = refl
none_negative (a ∷ b ∷ l) n = ap (λ (c : Bool). cond c 0 (suc (term_at l (negsuc n)))) (negative a b n) ∙ omega (arith, none_negative l n)
