-- The numbers of commits one more: adding is done in any order, a field at a time. Assumes nothing.
use Rattle.std.specs.Prelude.{Err, None, Ok, Option, Result, Some}
use Rattle.feed.specs.declared.Feed.{Feed}
use mathlib.Core.Path.{◌≡◌, refl, sym, ◌∙◌, ap}
use Prim.Native.Nat.{ℕ, suc, ◌+◌}
use mathlib.Core.List.{List, [], ◌∷◌, ◌++◌}
use native.Mathlib.Omega.{arith}
use lib.ListN.{length}
use Rattle.hash.specs.Bytes.{Id, if_some}
use Rattle.hash.proofs.Tests.{no-some}
use Rattle.walk.specs.declared.Refusal.{Refusal}
use Rattle.tally.specs.declared.feeds.Feeds.{Feeds}
use Rattle.tally.specs.Feeds.{no_feeds, feeds_of, feeds_in, plus, feeds_over}
use Rattle.reports.specs.Report.{fault_in}
use Rattle.reports.specs.Demand.{fault_over}

-- two records of numbers are the same where each number is
same-feeds : (a b : Feeds) → a.both ≡ b.both → a.cone ≡ b.cone → a.bed ≡ b.bed → a.neither ≡ b.neither
    → a.cone_sum ≡ b.cone_sum → a.bed_sum ≡ b.bed_sum → a.paired_cone ≡ b.paired_cone → a.paired_bed ≡ b.paired_bed → a ≡ b
same-feeds a b p q r s t u v w = λ j. record { both = p j; cone = q j; bed = r j; neither = s j; cone_sum = t j; bed_sum = u j; paired_cone = v j; paired_bed = w j }

pub plus_none : (a : Feeds) → plus a no_feeds ≡ a
plus_none a = same-feeds (plus a no_feeds) a (omega arith) (omega arith) (omega arith) (omega arith) (omega arith) (omega arith) (omega arith) (omega arith)

plus-last : (a b : Feeds) → plus a b ≡ plus b a
plus-last a b = same-feeds (plus a b) (plus b a) (omega arith) (omega arith) (omega arith) (omega arith) (omega arith) (omega arith) (omega arith) (omega arith)

plus_assoc : (a b c : Feeds) → plus a (plus b c) ≡ plus (plus a b) c
plus_assoc a b c = same-feeds (plus a (plus b c)) (plus (plus a b) c) (omega arith) (omega arith) (omega arith) (omega arith) (omega arith) (omega arith) (omega arith) (omega arith)

-- one commit more
pub over-more : (f : Id → Result Feed Refusal) (l : List Id) (x : Id) → feeds_over f (l ++ (x ∷ [])) ≡ plus (feeds_over f l) (feeds_in (f x))
unfolding feeds_over
over-more f [] x = plus-last (feeds_in (f x)) no_feeds
over-more f (y ∷ l) x = ap (plus (feeds_in (f y))) (over-more f l x) ∙ plus_assoc (feeds_in (f y)) (feeds_over f l) (feeds_in (f x))

-- ---- four numbers

abbrev four : Feeds → ℕ
four f = f.both + f.cone + f.bed + f.neither

one_of : (c b : Option ℕ) → four (feeds_of c b) ≡ 1
one_of (Some c) (Some b) = refl
one_of (Some c) None = refl
one_of None (Some b) = refl
one_of None None = refl

one_in : (q : Result Feed Refusal) → fault_in q ≡ None → four (feeds_in q) ≡ 1
one_in (Ok f) e = one_of f.cone f.bed
one_in (Err r) e = no-some (sym e)

two_none : (p q : Option Refusal) → if_some p q (λ r. Some r) ≡ None → (p ≡ None) × (q ≡ None)
two_none None q e = (refl, e)
two_none (Some r) q e = no-some (sym e)

-- each commit that is not faulty is in one of them
pub four_all : (f : Id → Result Feed Refusal) (l : List Id) → fault_over f l ≡ None → four (feeds_over f l) ≡ length l
unfolding feeds_over fault_over
four_all f [] e = refl
four_all f (x ∷ l) e =
    let k = two_none (fault_in (f x)) (fault_over f l) e in
    omega (arith, one_in (f x) k.0, four_all f l k.1)
