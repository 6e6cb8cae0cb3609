-- Laws of the zone in a committer line. Each test of a byte, a digit or a number picks a case of the definition; minutes on a clock of at
-- most 14 hours are below 900. Assumes nothing.
use Rattle.std.specs.Prelude.{None, Option, Some}
use mathlib.Core.Path.{◌≡◌, sym, ap, ◌∙◌}
use mathlib.Core.List.{List}
use mathlib.Core.Bool.{true, false, ◌&&◌}
use Prim.Native.Nat.{ℕ, suc, ◌+◌, ◌-◌, ◌*◌, ◌≤◌, ◌<◌}
use native.Mathlib.Numerals.{add-one}
use native.Mathlib.Omega.{arith}
use lib.ListN.{length, get_or, drop}
use lib.Dec.{leb, ltb}
use lib.IntN.{pos, neg_ℤ}
use borrow.Author.Tests.{eq-eqb, ne_eqb, le-leb, lt-leb, lt-ltb, le-ltb, leb-true, ltb-true}
use Rattle.hash.specs.Bytes.{if_some}
use Rattle.hash.proofs.Tests.{by_cases, no-some, some_in, and_both}
use Rattle.actor.specs.Person.{digit, first_of, last_of, two_digits, clock, clock_text, by_sign, zone_text, spaced_zone, line_zone}

-- hours past 14, minutes past 59, a time of the clock
pub late_hour : (h m : ℕ) → 14 < h → clock h m ≡ None
late_hour h m l = rw (lt-leb h 14 l)

pub late_minute : (h m : ℕ) → h ≤ 14 → 60 ≤ m → clock h m ≡ None
late_minute h m k l = rw (le-leb h 14 k, le-ltb m 60 l)

pub on-clock : (h m : ℕ) → h ≤ 14 → m < 60 → clock h m ≡ Some (h * 60 + m)
on-clock h m k l = rw (le-leb h 14 k, lt-ltb m 60 l)

pub clock-small : (h m v : ℕ) → clock h m ≡ Some v → v < 900
clock-small h m v e =
    by_cases (leb h 14 && ltb m 60)
    (λ t.
    let b : (leb h 14 ≡ true) × (ltb m 60 ≡ true) = and_both t in
    let p = leb-true h 14 b.0 in
    let q = ltb-true m 60 b.1 in
    let z : h * 60 + m ≡ v = some_in (sym (on-clock h m p q) ∙ e) in
    omega arith)
    (λ t. no-some (rw t at e))

pub text_small : (l : List ℕ) (v : ℕ) → clock_text l ≡ Some v → v < 900
unfolding clock_text
text_small l v e = go (two_digits (get_or l 1 0) (get_or l 2 0)) (two_digits (get_or l 3 0) (get_or l 4 0)) e
  where
    go : (p q : Option ℕ) → if_some p None (λ h. if_some q None (λ m. clock h m)) ≡ Some v → v < 900
    go None q e = no-some e
    go (Some h) None e = no-some e
    go (Some h) (Some m) e = clock-small h m v e

-- a byte that is no sign
pub no_sign : (s v : ℕ) → (s ≡ 43 → ⊥) → (s ≡ 45 → ⊥) → by_sign s v ≡ None
no_sign s v n m = rw (ne_eqb s 43 n, ne_eqb s 45 m)

-- the whole zone: of another length, and with four digits of a clock
pub other_length : (l : List ℕ) → (length l ≡ 5 → ⊥) → zone_text l ≡ None
unfolding zone_text
other_length l n = rw (ne_eqb (length l) 5 n)

pub zone-signed : (l : List ℕ) (v : ℕ) → length l ≡ 5 → clock_text l ≡ Some v → zone_text l ≡ by_sign (get_or l 0 0) v
unfolding zone_text
zone-signed l v e f = rw (eq-eqb (length l) 5 e, f)
