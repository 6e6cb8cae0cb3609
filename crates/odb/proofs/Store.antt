-- The layout of a good store. The test `store_is_ok` says the same as the record `Good`, part by part: the entries stand in the file, their ids
-- rise, their ends never fall, the last end is the start. Assumes nothing.
use mathlib.Core.Path.{◌≡◌, refl, sym, ◌∙◌}
use mathlib.Core.Logic.{⊎_elim}
use Prim.Native.Nat.{ℕ, zero, suc, ◌+◌, ◌-◌, ◌*◌, ◌≤◌, ◌<◌}
use mathlib.Core.Bool.{Bool, true, false, ◌&&◌}
use mathlib.Core.List.{List}
use native.Mathlib.Omega.{arith}
use native.Mathlib.Nat.{eq-or-lt_of_le}
use lib.ListN.{length}
use lib.Dec.{eqb, leb}
use borrow.Author.Tests.{eqb-true, eq-eqb, leb-true, le-leb}
use Rattle.hash.proofs.Widths.{apart}
use Rattle.hash.proofs.Tests.{and_both, guard_test, guarded, guard_of, not_yes}
use Rattle.idlist.specs.IdList.{rising, Stands}
use Rattle.odb.specs.Store.{entry_size, start, entries, entry_ids, body_end, body_start, ends_rise, standing, standing_entries, store_is_ok}

-- ---- the entries stand in the file

pub standing_length : (w : ℕ) (b : List ℕ) → standing w b ≡ true → length b ≡ start b + entry_size w * entries b + 8
unfolding standing
standing_length w b e = eqb-true (length b) (start b + entry_size w * entries b + 8) (and_both {a = leb 8 (length b)} e).1

pub standing-count : (w : ℕ) (b : List ℕ) → standing w b ≡ true → standing_entries w b ≡ entries b
unfolding standing_entries
standing-count w b e = rw e

pub broken_count : (w : ℕ) (b : List ℕ) → standing w b ≡ false → standing_entries w b ≡ 0
unfolding standing_entries
broken_count w b e = rw e

-- an entry below the count stands in the file, whatever the bytes are
pub counted-within : (w : ℕ) (b : List ℕ) (k : ℕ) → k < standing_entries w b → start b + entry_size w * k + entry_size w + 8 ≤ length b
counted-within w b k h = go (standing w b) refl
  where
    go : (t : Bool) → standing w b ≡ t → start b + entry_size w * k + entry_size w + 8 ≤ length b
    go true e = let i : k < entries b = omega (arith, standing-count w b e) in omega (arith, standing_length w b e, apart (entry_size w) i)
    go false e = absurd (omega (arith, broken_count w b e))

-- where the entries stand, they stand as ids at equal distances do
pub standing_stand : (w : ℕ) (b : List ℕ) → standing w b ≡ true → Stands (entry_ids w b) (standing_entries w b)
unfolding entry_ids
standing_stand w b e = rw (standing-count w b e) (record { moves = omega arith; apart = omega arith; inside = omega (arith, standing_length w b e) })

-- ---- the test and its parts

pub record Good (w : ℕ) (b : List ℕ) : Type 0 where
  pub stands : standing w b ≡ true
  pub rises : rising (entry_ids w b) (entries b) ≡ true
  pub ends : ends_rise w b (entries b) ≡ true
  pub last : body_start w b (entries b) ≡ start b

-- the tests that `standing` guards
abbrev guarded_tests : ℕ → List ℕ → Bool
guarded_tests w b = rising (entry_ids w b) (entries b) && ends_rise w b (entries b) && eqb (body_start w b (entries b)) (start b)

pub good : (w : ℕ) (b : List ℕ) → store_is_ok w b ≡ true → Good w b
unfolding store_is_ok
good w b e =
    let t = and_both {a = rising (entry_ids w b) (entries b) && ends_rise w b (entries b)} (guarded (standing w b) (guarded_tests w b) e) in
    let u = and_both {a = rising (entry_ids w b) (entries b)} t.0 in
    record {
      stands = guard_test (standing w b) (guarded_tests w b) e;
      rises = u.0;
      ends = u.1;
      last = eqb-true (body_start w b (entries b)) (start b) t.1;
    }

-- with the other parts in hand the last decides
pub last_decides : (w : ℕ) (b : List ℕ) → standing w b ≡ true → rising (entry_ids w b) (entries b) ≡ true → ends_rise w b (entries b) ≡ true
    → eqb (body_start w b (entries b)) (start b) ≡ store_is_ok w b
unfolding store_is_ok
last_decides w b s r e = rw (s, r, e)

pub good-ok : (w : ℕ) (b : List ℕ) → Good w b → store_is_ok w b ≡ true
good-ok w b g = sym (last_decides w b g.stands g.rises g.ends) ∙ eq-eqb (body_start w b (entries b)) (start b) g.last

pub refused : (w : ℕ) (b : List ℕ) → (Good w b → ⊥) → false ≡ store_is_ok w b
refused w b n = sym (not_yes (λ e. n (good w b e)))

pub good-size : (w : ℕ) (b : List ℕ) → store_is_ok w b ≡ true → length b ≡ start b + entry_size w * entries b + 8
good-size w b e = standing_length w b (good w b e).stands

pub good-count : (w : ℕ) (b : List ℕ) → store_is_ok w b ≡ true → standing_entries w b ≡ entries b
good-count w b e = standing-count w b (good w b e).stands

-- ---- an entry and the one before it

pub start-next : (w : ℕ) (b : List ℕ) (k : ℕ) → (k ≡ 0 → ⊥) → body_start w b k ≡ body_end w b (k - 1)
unfolding body_start
start-next w b zero n = absurd (n refl)
start-next w b (suc k) n = let e : suc k - 1 ≡ k = omega arith in rw e

-- ---- the ends

pub ends-step : (w : ℕ) (b : List ℕ) (k : ℕ) → ends_rise w b k ≡ true → body_start w b k ≤ body_end w b k → ends_rise w b (suc k) ≡ true
unfolding ends_rise
ends-step w b k e h = guard_of (ends_rise w b k) _ e (le-leb (body_start w b k) (body_end w b k) h)

pub ends_less : (w : ℕ) (b : List ℕ) (k : ℕ) → ends_rise w b (suc k) ≡ true → ends_rise w b k ≡ true
unfolding ends_rise
ends_less w b k e = guard_test (ends_rise w b k) (leb (body_start w b k) (body_end w b k)) e

pub ends_last : (w : ℕ) (b : List ℕ) (k : ℕ) → ends_rise w b (suc k) ≡ true → body_start w b k ≤ body_end w b k
unfolding ends_rise
ends_last w b k e = leb-true (body_start w b k) (body_end w b k) (guarded (ends_rise w b k) (leb (body_start w b k) (body_end w b k)) e)

pub ends_fewer : (w : ℕ) (b : List ℕ) (n : ℕ) → ends_rise w b n ≡ true → (k : ℕ) → k ≤ n → ends_rise w b k ≡ true
ends_fewer w b zero e k h = let z : k ≡ 0 = omega arith in rw z e
ends_fewer w b (suc n) e k h = ⊎_elim (λ q. rw q e) (λ l. ends_fewer w b n (ends_less w b n e) k (omega arith)) (eq-or-lt_of_le h)
