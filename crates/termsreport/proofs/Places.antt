-- Where a commit is counted: in the term that has its seconds, of which a good list has one at most; none has seconds before 1970, and none those after 2099, since
-- its last month is in the table. Assumes nothing.
use Rattle.std.specs.Prelude.{None, Option, Some}
use mathlib.Core.Path.{◌≡◌, refl, sym, ◌∙◌, ap}
use Prim.Native.Nat.{ℕ, suc, ◌*◌, ◌-◌, ◌/◌, ◌≤◌, ◌<◌}
use mathlib.Core.Bool.{Bool, true, false, cond}
use mathlib.Core.List.{List, []}
use native.Mathlib.Omega.{arith}
use lib.ListN.{length}
use lib.Dec.{ltb}
use lib.IntN.{ℤ, pos, negsuc}
use borrow.Author.Tests.{ltb-true, lt-ltb}
use Rattle.hash.specs.Bytes.{Id, if_some}
use Rattle.hash.proofs.Tests.{clash}
use Rattle.calendar.specs.Months.{first_day, first_second, last_second}
use Rattle.calendar.specs.Terms.{good_terms, term_at, first_month, last_month, has_seconds}
use Rattle.calendar.proofs.Days.{in_order, after, negative}
use Rattle.calendar.proofs.Rising.{term}
use Rattle.calendar.proofs.OneTerm.{good-rise, is_term, has_term}
use Rattle.walk.specs.Lookup.{world_of, store_seconds}
use Rattle.tally.specs.Terms.{spot_at, term_of}
use Rattle.termsreport.specs.Places.{Places}

at-seconds : (width : ℕ) (terms s : List ℕ) (x : Id) (o : Option ℤ) → store_seconds (world_of width s []) x ≡ o → term_of width terms s x ≡ if_some o None (λ t. spot_at terms t)
unfolding term_of
at-seconds width terms s x o e = ap (λ (q : Option ℤ). if_some q None (λ t. spot_at terms t)) e

-- a term that has the seconds is the one that is named
found : (terms : List ℕ) (t : ℤ) (k : ℕ) → good_terms terms ≡ true → k < length terms / 2 → has_seconds terms k t ≡ true → spot_at terms t ≡ Some k
unfolding spot_at
found terms t k g h e =
    let n : term_at terms t ≡ k = is_term terms t k g h e in
    ap (λ (j : ℕ). cond (ltb j (length terms / 2)) (Some j) None) n ∙ ap (λ (b : Bool). cond b (Some k) None) (lt-ltb k (length terms / 2) h)

-- where none has them the commit is outside
missed : (terms : List ℕ) (t : ℤ) → ((k : ℕ) → k < length terms / 2 → has_seconds terms k t ≡ false) → spot_at terms t ≡ None
unfolding spot_at
missed terms t never = go (ltb (term_at terms t) (length terms / 2)) refl
  where
    go : (b : Bool) → ltb (term_at terms t) (length terms / 2) ≡ b → cond b (Some (term_at terms t)) None ≡ None
    go true e = let h : term_at terms t < length terms / 2 = ltb-true (term_at terms t) (length terms / 2) e in clash (has_term terms t h) (never (term_at terms t) h)
    go false e = refl

past : (m n : ℕ) → last_second m < n → first_day (suc m) ≤ n / 86400
unfolding first_second last_second
past m n h = omega (arith, h)

late : (terms : List ℕ) (n k : ℕ) → good_terms terms ≡ true → last_second 1559 < n → k < length terms / 2 → has_seconds terms k (pos n) ≡ false
late terms n k g h q =
    let o : first_day (suc (last_month terms k)) ≤ first_day 1560 = in_order (suc (last_month terms k)) 1560 (omega (arith, (term terms 0 (good-rise terms g) k q).last-tabled)) in
    let p : first_day 1560 ≤ n / 86400 = past 1559 n h in
    after (first_month terms k) (last_month terms k) n (omega (arith, o, p))

pub places : (width : ℕ) (terms s : List ℕ) → Places width terms s
places width terms s = record {
  in_term = λ g x t k e h q. at-seconds width terms s x (Some t) e ∙ found terms t k g h q;
  before_1970 = λ g x n e. at-seconds width terms s x (Some (negsuc n)) e ∙ missed terms (negsuc n) (λ k h. negative (first_month terms k) (last_month terms k) n);
  after_2099 = λ g x n e h. at-seconds width terms s x (Some (pos n)) e ∙ missed terms (pos n) (λ k q. late terms n k g h q);
  unread = λ x e. at-seconds width terms s x None e;
}
