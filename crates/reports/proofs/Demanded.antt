-- The four numbers add up, since each commit that is not faulty is in one of them; and under the premises the report is that of the third demand's
-- list, which the whole walk hands out. The shop's reader has nothing withheld, an outside one the embargoed readings. Assumes nothing.
use Rattle.std.specs.Prelude.{Err, None, Ok, Option, Result, Some}
use Rattle.feed.specs.declared.Feed.{Feed}
use mathlib.Core.Path.{◌≡◌, refl, sym, ◌∙◌, ap}
use Prim.Native.Nat.{ℕ, ◌+◌, ◌≤◌}
use mathlib.Core.Bool.{true}
use mathlib.Core.List.{List, []}
use native.Mathlib.Omega.{arith}
use lib.ListN.{length}
use Rattle.hash.specs.Bytes.{Id, among, ids_of}
use Rattle.hash.specs.Bytes.{width_of}
use Rattle.hash.specs.declared.Kind.{Kind}
use Rattle.hash.specs.declared.Kind.TheVariants.{Sha1, Sha256}
use Rattle.walk.specs.declared.Refusal.{Refusal}
use Rattle.walk.specs.Opening.{Input, width_in, walk_of, list_ids, refusal, P, room_for, Opening, closed, opened, open_walk}
use Rattle.walk.specs.Next.{Answer}
use Rattle.walk.specs.Calls.{answer_at_call}
use Rattle.walk.specs.Demand.{Premises}
use Rattle.walk.proofs.Calls.{answers_at}
use Rattle.traverse.specs.Contract.{Lent, lengths_of}
use Rattle.traverse.proofs.Numbered.{length_up_to}
use Rattle.tally.specs.Feeds.{no_reading, feed_at, feed_for, feeds_over}
use Rattle.tally.proofs.Steps.{held_back, none-held}
use Rattle.driver.specs.Walked.{all_answers, whole_list}
use Rattle.driver.proofs.Whole.{listed-whole}
use Rattle.reports.specs.declared.Reader.{Reader}
use Rattle.reports.specs.declared.Reader.TheVariants.{Shop, Outside}
use Rattle.reports.specs.declared.FeedReport.{FeedReport}
use Rattle.reports.specs.Report.{refused_report, fault_in, first_fault, report_from, report_by, readings_for, feed_report, good_list, open_embargoed, FeedSays}
use Rattle.reports.specs.Demand.{fault_over, OfListed, ShopSays, FeedDemand, ReadersGiven}
use Rattle.reports.proofs.Adding.{four_all}
use Rattle.reports.proofs.Faults.{none_faulty, hands_fault}
use Rattle.reports.proofs.Embargoed.{good-opens}

abbrev four : FeedReport → ℕ
four r = r.both + r.cone + r.bed + r.neither

not-whole {ℓ} : {X : Type ℓ} (q : Refusal) → ◌≡◌ {A = Result (Unit {0}) Refusal} (Err q) (Ok tt) → X
not-whole q e = let z : ◌≡◌ {A = ℕ} 0 1 = cc in absurd (omega arith)

-- a whole report of a walk
whole_four : (f : Id → Result Feed Refusal) (i : Input) → (report_by f i).outcome ≡ (Ok tt) → four (report_by f i) ≡ length (whole_list i)
unfolding report_by whole_list
whole_four f i o = go (first_fault f (all_answers i)) refl o
  where
    go : (q : Option Refusal) → first_fault f (all_answers i) ≡ q → (report_from q (feeds_over f (whole_list i))).outcome ≡ (Ok tt)
        → four (report_from q (feeds_over f (whole_list i))) ≡ length (whole_list i)
    go None h w = four_all f (whole_list i) (none_faulty f (all_answers i) h)
    go (Some q) h w = not-whole q w

module _ (reader : Reader) (e : List ℕ) (i : Input) (m : Lent) (r : FeedReport) (m' : Lent) (s : FeedSays reader e i m r m') where
  adds : r.outcome ≡ (Ok tt) → four r ≡ length (whole_list i)
  unfolding feed_report
  adds o = go (open_embargoed i e (room_for i (lengths_of m))) refl
    where
      go : (w : Opening) → open_embargoed i e (room_for i (lengths_of m)) ≡ w → four r ≡ length (whole_list i)
      go (closed q) h = not-whole q (sym (ap (λ (x : FeedReport). x.outcome) (s.refused_open q h).0) ∙ o)
      go (opened st) h =
          let k = s.accepted_open st h in
          ap four k ∙ whole_four (readings_for (width_in i) reader e i.store) i (sym (ap (λ (x : FeedReport). x.outcome) k) ∙ o)

  of-listed : good_list (width_in i) e ≡ true → refusal i ≡ None → room_for i (lengths_of m) ≡ true → Premises (walk_of i) (list_ids (width_in i) i.tips) → OfListed reader e i r
  unfolding feed_report report_by
  of-listed good none-refused room pre =
      let q = listed-whole i none-refused pre in
      let f : Id → Result Feed Refusal = readings_for (width_in i) reader e i.store in
      let d = q.0 in
      let n : length (all_answers i) ≡ P i + 2 = ap (λ (x : List Answer). length x) (answers_at i (P i + 2)) ∙ length_up_to (answer_at_call i) (P i + 2) in
      record {
        list = d.list;
        no_repeats = d.different;
        exactly = d.exactly;
        is =
            s.accepted_open d.state (good-opens i e (room_for i (lengths_of m)) good ∙ ap (open_walk i) room ∙ d.accepted)
            ∙ ap (λ (z : Option Refusal). report_from z (feeds_over f (whole_list i))) (hands_fault f (all_answers i) (d.handed_out (P i + 2)) (omega (arith, n, d.within)))
            ∙ ap (λ (l : List Id). report_from (fault_over f d.list) (feeds_over f l)) q.1;
      }

pub feed_demand : (reader : Reader) (e : List ℕ) (i : Input) (m : Lent) → FeedDemand reader e i m
feed_demand reader e i m = record { adds_up = λ r m' s. adds reader e i m r m' s; demanded = λ r m' s. of-listed reader e i m r m' s }

-- ---- what each reader is given

-- an empty list has no ids
none-listed : (kind : Kind) → list_ids (width_of kind) [] ≡ []
unfolding list_ids ids_of
none-listed Sha1 = refl
none-listed Sha256 = refl

shop_readings : (kind : Kind) (e s : List ℕ) → readings_for (width_of kind) Shop e s ≡ feed_at (width_of kind) s
shop_readings kind e s = ap (λ (l : List Id). feed_for (width_of kind) l s) (none-listed kind) ∙ (λ j x. none-held (width_of kind) s x j)

shop-says : (e : List ℕ) (i : Input) (m : Lent) (r : FeedReport) (m' : Lent) → good_list (width_in i) e ≡ true → FeedSays Shop e i m r m' → ShopSays i m r m'
unfolding feed_report
shop-says e i m r m' good s =
    let o = good-opens i e (room_for i (lengths_of m)) good in
    record {
      refused_open = λ q h. s.refused_open q (o ∙ h);
      accepted_open = λ st h. s.accepted_open st (o ∙ h) ∙ ap (λ (f : Id → Result Feed Refusal). report_by f i) (shop_readings i.settings.kind e i.store);
      same-lengths = s.same-lengths;
    }

pub readers_given : (e : List ℕ) (i : Input) → ReadersGiven e i
unfolding feed_report
readers_given e i =
    let held : (x : Id) → among x (list_ids (width_in i) e) ≡ true → readings_for (width_in i) Outside e i.store x ≡ no_reading = λ x h. sym (held_back (width_in i) (list_ids (width_in i) e) i.store x h) in
    record { shop = shop-says e i; neither = held; no_fault = λ x h. ap fault_in (held x h); none_embargoed = refl }
