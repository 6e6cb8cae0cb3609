-- A feed report through the library: with no room nothing is done, else what is said is set down. Assumes nothing.
use mathlib.Core.Path.{◌≡◌, refl, ◌∙◌, subst}
use Prim.Native.Nat.{ℕ}
use mathlib.Core.Bool.{Bool, true, false}
use mathlib.Core.List.{List}
use lib.IntN.{ℤ}
use Rattle.hash.proofs.Tests.{clash}
use Rattle.walk.specs.Opening.{Input}
use Rattle.traverse.specs.Contract.{Lent}
use Rattle.reports.specs.declared.Reader.{Reader}
use Rattle.reports.specs.declared.FeedReport.{FeedReport}
use Rattle.reports.specs.Report.{FeedSays}
use Rattle.reportwire.specs.Feed.{no_room_number, room_for_feed, PutsFeed, LibraryFeed}

pub no_room-says : (reader : Reader) (e : List ℕ) (i : Input) (m : Lent) (numbers : List ℕ) (difference : List ℤ) {b : Bool} → b ≡ room_for_feed numbers difference → b ≡ false
    → LibraryFeed reader e i m m numbers numbers difference difference no_room_number
no_room-says reader e i m numbers difference r h = record { no_room = λ g. (refl, refl, refl, refl); made = λ g. clash (r ∙ g) h }

-- the report was lent the input i, which is j, and made for the reader u, who is v: the settings and the reader are those that the numbers stand for
pub made-says : {u v : Reader} {e : List ℕ} {i j : Input} {m m' : Lent} {numbers numbers' : List ℕ} {difference difference' : List ℤ} {n : ℕ} {o : FeedReport} {b : Bool} → u ≡ v → i ≡ j
    → b ≡ room_for_feed numbers difference → b ≡ true → FeedSays u e i m o m' → PutsFeed o numbers numbers' difference difference' n
    → LibraryFeed v e j m m' numbers numbers' difference difference' n
made-says {u = u} {e = e} {j = j} {m = m} {m' = m'} {o = o} w k r t s p = record {
  no_room = λ g. clash t (r ∙ g);
  made = λ g. record { report = o; says = subst (λ (x : Reader). FeedSays x e j m o m') w (subst (λ (x : Input). FeedSays u e x m o m') k s); puts = p };
}
