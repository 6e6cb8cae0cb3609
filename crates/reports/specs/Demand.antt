-- What the feed report's numbers add up to, the third demand for a caller of `feed_report` alone, from what it promises (`FeedSays`), and what each
-- reader is given. Assumes nothing.
use Rattle.std.specs.Prelude.{ℕ, ◌+◌, ◌≡◌, ◌↔◌, true, List, [], ◌∷◌, length, None, Ok, Option, Result, Some}
use Rattle.feed.specs.declared.Feed.{Feed}
use Rattle.hash.specs.Bytes.{Id, among, if_some}
use Rattle.walk.specs.declared.Refusal.{Refusal}
use Rattle.walk.specs.State.{State}
use Rattle.walk.specs.Opening.{Input, width_in, walk_of, list_ids, refusal, room_for, open_walk, closed, opened}
use Rattle.walk.specs.Reach.{Mem, NoDup}
use Rattle.walk.specs.Demand.{Premises, Listed}
use Rattle.traverse.specs.Contract.{Lent, lengths_of}
use Rattle.tally.specs.Feeds.{no_reading, feed_at, feeds_over}
use Rattle.driver.specs.Walked.{whole_list}
use Rattle.reports.specs.declared.Reader.{Reader}
use Rattle.reports.specs.declared.Reader.TheVariants.{Shop, Outside}
use Rattle.reports.specs.declared.FeedReport.{FeedReport}
use Rattle.reports.specs.Report.{refused_report, fault_in, report_from, report_by, readings_for, feed_report, good_list, FeedSays}

-- the first faulty commit of a list, by readings that f gives
unfoldable pub fault_over : (Id → Result Feed Refusal) → List Id → Option Refusal
fault_over f [] = None
fault_over f (x ∷ xs) = let later = fault_over f xs in if_some (fault_in (f x)) later (λ r. Some r)

-- under the premises the report is about the commits to be listed, each once, and no others; no refusal of the walk comes
pub record OfListed (reader : Reader) (e : List ℕ) (i : Input) (r : FeedReport) : Type 0 where
  pub list : List Id
  pub no_repeats : NoDup list
  pub exactly : (x : Id) → Mem x list ↔ Listed (walk_of i) (list_ids (width_in i) i.tips) x
  pub is : r ≡ report_from (fault_over (readings_for (width_in i) reader e i.store) list) (feeds_over (readings_for (width_in i) reader e i.store) list)

-- card 5's report, which knows of no embargo: refused as the opening is, or over the readings of the store
pub record ShopSays (i : Input) (m : Lent) (r : FeedReport) (m' : Lent) : Type 0 where
  pub refused_open : (q : Refusal) → open_walk i (room_for i (lengths_of m)) ≡ closed q → (r ≡ refused_report q) × (m' ≡ m)
  pub accepted_open : (st : State) → open_walk i (room_for i (lengths_of m)) ≡ opened st → r ≡ report_by (feed_at (width_in i) i.store) i
  pub same-lengths : lengths_of m' ≡ lengths_of m

-- of `feed_report` with the input i, the list e of embargoed ids and the lent memory m, whatever it gave back
pub record FeedDemand (reader : Reader) (e : List ℕ) (i : Input) (m : Lent) : Type 0 where
  -- "Unless refused, the four numbers add up to the runs handed out."
  pub adds_up : (r : FeedReport) (m' : Lent) → FeedSays reader e i m r m' → r.outcome ≡ (Ok tt) → r.both + r.cone + r.bed + r.neither ≡ length (whole_list i)
  pub demanded : (r : FeedReport) (m' : Lent) → FeedSays reader e i m r m' → good_list (width_in i) e ≡ true → refusal i ≡ None → room_for i (lengths_of m) ≡ true
      → Premises (walk_of i) (list_ids (width_in i) i.tips) → OfListed reader e i r

-- what each reader is given (card 10)
pub record ReadersGiven (e : List ℕ) (i : Input) : Type 0 where
  -- "The shop's reader sees all": with any good list its report is card 5's
  pub shop : (m : Lent) (r : FeedReport) (m' : Lent) → good_list (width_in i) e ≡ true → FeedSays Shop e i m r m' → ShopSays i m r m'
  -- "its feed counts as neither reading", and "Readings embargoed from the outside reader never cause 21 or 22 there"
  pub neither : (x : Id) → among x (list_ids (width_in i) e) ≡ true → readings_for (width_in i) Outside e i.store x ≡ no_reading
  pub no_fault : (x : Id) → among x (list_ids (width_in i) e) ≡ true → fault_in (readings_for (width_in i) Outside e i.store x) ≡ None
  -- with nothing embargoed an outside reader is given what the shop's is
  pub none_embargoed : feed_report Outside [] i ≡ feed_report Shop e i
