-- The feed report (document 02, card 5, "Feed report") over a whole walk, for the shop's reader and for an outside one (card 10, "Embargoed
-- readings"). Assumes nothing.
use Rattle.std.specs.Prelude.{ℕ, ◌%◌, ◌≡◌, Bool, cond, ◌&&◌, List, [], ◌∷◌, length, eqb, leb, pos, ◌-ℤ◌, Err, None, Ok, Option, Result, Some}
use Rattle.feed.specs.declared.Feed.{Feed}
use Rattle.hash.specs.Bytes.{Id, if_some}
use Rattle.walk.specs.declared.Refusal.{Refusal}
use Rattle.walk.specs.declared.Refusal.TheVariants.{InputTooLarge, PartialId}
use Rattle.walk.specs.declared.Outcome.{Outcome}
use Rattle.walk.specs.declared.Outcome.TheVariants.{Commit, End, Refused as Stopped}
use Rattle.walk.specs.State.{State}
use Rattle.walk.specs.Opening.{Input, width_in, list_ids, list_limit, sizes_ok, whole_ids, room_for, Opening, open_walk, closed, opened}
use Rattle.walk.specs.Next.{Kind, end, refused, handed, Answer}
use Rattle.traverse.specs.Contract.{Lent, lengths_of}
use Rattle.driver.specs.declared.Driven.{Driven}
use Rattle.tally.specs.declared.feeds.Feeds.{Feeds}
use Rattle.tally.specs.Feeds.{feed_for, feeds_over}
use Rattle.driver.specs.Walked.{all_answers, whole_list}
use Rattle.reports.specs.declared.Reader.{Reader}
use Rattle.reports.specs.declared.Reader.TheVariants.{Shop, Outside}
use Rattle.reports.specs.declared.FeedReport.{FeedReport}

-- ---- a report

-- "the report is zeros"
abbrev pub refused_report : Refusal → FeedReport
refused_report r = record { outcome = Err r; both = 0; cone = 0; bed = 0; neither = 0; cone_sum = 0; bed_sum = 0; difference = pos 0 }

-- "the number of runs with both, cone alone, bed alone and neither, the two exact sums over all readings, and for paired runs the signed sum of
-- cone less bed"
abbrev pub whole_report : Feeds → FeedReport
whole_report f = record {
  outcome = (Ok tt);
  both = f.both;
  cone = f.cone;
  bed = f.bed;
  neither = f.neither;
  cone_sum = f.cone_sum;
  bed_sum = f.bed_sum;
  difference = pos f.paired_cone -ℤ pos f.paired_bed;
}

-- ---- what refuses it

-- "21 reading given twice …, 22 reading unreadable"
abbrev pub fault_in : Result Feed Refusal → Option Refusal
fault_in (Ok f) = None
fault_in (Err r) = Some r

-- by an answer: "A walk's own refusal ends the report with that number", and a commit that is handed out may be faulty; f gives the readings
abbrev pub fault_by : (Id → Result Feed Refusal) → Kind → Option Refusal
fault_by f end = None
fault_by f (refused r) = Some r
fault_by f (handed x g t) = fault_in (f x)

-- "at the first such run in walk order", and "[o]f these and a walk's refusal the earlier call decides"
unfoldable pub first_fault : (Id → Result Feed Refusal) → List Answer → Option Refusal
first_fault f [] = None
first_fault f (a ∷ rest) = let later = first_fault f rest in if_some (fault_by f a.kind) later (λ r. Some r)

abbrev pub report_from : Option Refusal → Feeds → FeedReport
report_from None f = whole_report f
report_from (Some r) f = refused_report r

-- "Over a whole walk, report …", by readings that f gives
unfoldable pub report_by : (Id → Result Feed Refusal) → Input → FeedReport
report_by f i = report_from (first_fault f (all_answers i)) (feeds_over f (whole_list i))

-- ---- the two readers

-- whose readings are withheld: "The shop's reader sees all", and from an outside reader those of the embargoed ids
abbrev pub withheld : Reader → List ℕ → List ℕ
withheld Shop e = []
withheld Outside e = e

-- the readings of commits, their ids so wide, that a reader is given; e is the list of embargoed ids, as lent
abbrev pub readings_for : ℕ → Reader → List ℕ → List ℕ → Id → Result Feed Refusal
readings_for width reader e s = feed_for width (list_ids width (withheld reader e)) s

unfoldable pub feed_report : Reader → List ℕ → Input → FeedReport
feed_report reader e i = report_by (readings_for (width_in i) reader e i.store) i

-- ---- the opening: "The list of embargoed ids is a list for 2 and 3", for either reader; then as any opening

-- a list that neither refuses
abbrev pub good_list : ℕ → List ℕ → Bool
good_list width e = leb (length e) (list_limit width) && eqb (length e % width) 0

unfoldable pub open_embargoed : Input → List ℕ → Bool → Opening
open_embargoed i e room =
    let three : Opening = cond (whole_ids i && eqb (length e % width_in i) 0) (open_walk i room) (closed PartialId) in
    cond (sizes_ok i && leb (length e) (list_limit (width_in i))) three (closed InputTooLarge)

-- ---- feed_report: refused as the opening is, with no lent byte altered; or the report of the whole walk, with all lent memory free
pub record FeedSays (reader : Reader) (e : List ℕ) (i : Input) (m : Lent) (r : FeedReport) (m' : Lent) : Type 0 where
  pub refused_open : (q : Refusal) → open_embargoed i e (room_for i (lengths_of m)) ≡ closed q → (r ≡ refused_report q) × (m' ≡ m)
  pub accepted_open : (st : State) → open_embargoed i e (room_for i (lengths_of m)) ≡ opened st → r ≡ feed_report reader e i
  pub same-lengths : lengths_of m' ≡ lengths_of m

-- ---- its parts

-- 2 or 3 of the embargoed list, in their places among the opening's, if one of them refuses: 3 comes after every 2
unfoldable pub embargo_fault : Input → List ℕ → Option Refusal
embargo_fault i e =
    let three : Option Refusal = cond (sizes_ok i) (Some PartialId) (Some InputTooLarge) in
    let whole : Option Refusal = cond (eqb (length e % width_in i) 0) None three in
    cond (leb (length e) (list_limit (width_in i))) whole (Some InputTooLarge)

-- by the first refusal, or End
abbrev pub report_after : Outcome → Feeds → FeedReport
report_after Commit f = whole_report f
report_after End f = whole_report f
report_after (Stopped r) f = refused_report r

abbrev pub opened_by : Result (Unit {0}) Refusal → Outcome → Feeds → FeedReport
opened_by (Ok _) o f = report_after o f
opened_by (Err r) o f = refused_report r

abbrev pub report_of : Driven → FeedReport
report_of d = opened_by d.outcome d.tally.reason d.tally.feeds
