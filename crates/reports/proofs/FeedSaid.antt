-- What `feed_report` comes to: where there is a fault the calls up to it decide; where there is none all P + 2 calls are tallied. Assumes nothing.
use Rattle.std.specs.Prelude.{None, Option, Result, Some}
use mathlib.Core.Path.{◌≡◌, refl, sym, ◌∙◌, ap, subst}
use Prim.Native.Nat.{ℕ, ◌+◌, ◌≤◌}
use mathlib.Core.List.{List}
use native.Mathlib.Omega.{arith}
use lib.ListN.{length}
use Rattle.walk.specs.declared.Refusal.{Refusal}
use Rattle.walk.specs.declared.Outcome.{Outcome}
use Rattle.walk.specs.State.{State}
use Rattle.walk.specs.Opening.{Input, width_in, P, room_for, closed, opened, open_walk}
use Rattle.walk.specs.Calls.{answers}
use Rattle.walk.specs.AnyInput.{handed_ids}
use Rattle.traverse.specs.Contract.{Lent, lengths_of}
use Rattle.driver.specs.declared.Driven.{Driven}
use Rattle.tally.specs.declared.feeds.Feeds.{Feeds}
use Rattle.tally.specs.declared.Task.TheVariants.{Feed}
use Rattle.tally.specs.Feeds.{feeds_over, LowFeeds}
use Rattle.tally.specs.Tally.{is_refusal, no_tally, holding}
use Rattle.tally.specs.Terms.{good_part, zeros}
use Rattle.driver.specs.Walked.{all_answers, whole_list}
use Rattle.driver.specs.Says.{Drove, Drives}
use Rattle.tally.proofs.Few.{few_up}
use Rattle.reports.specs.declared.Reader.{Reader}
use Rattle.reports.specs.declared.FeedReport.{FeedReport}
use Rattle.reports.specs.Report.{whole_report, first_fault, report_from, report_by, withheld, feed_report, open_embargoed, FeedSays, embargo_fault, report_after, opened_by, report_of, refused_report}
use Rattle.reports.proofs.Faults.{fault_stays}
use Rattle.reports.proofs.Told.{as_reason, seen, Told, told-all}
use Rattle.reports.proofs.Embargoed.{fine_opens, fault_opens, closed_is, not_opened}

module _ {i : Input} {m : Lent} {d : Driven} {m' : Lent} {embargoed terms ids counts ids' counts' : List ℕ} (s : Drives Feed embargoed terms i m ids counts d m' ids' counts') where
  pub low-feeds : LowFeeds d.tally.feeds
  low-feeds = (few_up 1048578 4294967296 d.tally (omega arith) s.few).feeds

  accepted : (st : State) → open_walk i (room_for i (lengths_of m)) ≡ opened st → report_of d ≡ report_by (seen (width_in i) embargoed i.store) i
  unfolding report_by whole_list
  accepted st e = go (first_fault (seen (width_in i) embargoed i.store) (answers i v.calls)) refl
    where
      v : Drove Feed embargoed (good_part terms) i (holding no_tally ids (zeros (length counts))) m.parents d m' ids' counts'
      v = s.accepted_open st e

      t : Told (seen (width_in i) embargoed i.store) (answers i v.calls) (holding d.tally ids' counts')
      t = subst (Told (seen (width_in i) embargoed i.store) (answers i v.calls)) (sym v.made.held) (told-all i ids embargoed (good_part terms) (zeros (length counts)) v.calls)

      one : (f : Option Refusal) → first_fault (seen (width_in i) embargoed i.store) (answers i v.calls) ≡ f → report_of d ≡ report_after (as_reason f) d.tally.feeds
      one f h =
          ap (λ (o : Result (Unit {0}) Refusal). opened_by o d.tally.reason d.tally.feeds) v.made.accepted
          ∙ ap (λ (o : Outcome). report_after o d.tally.feeds) (t.reason ∙ ap as_reason h)

      go : (f : Option Refusal) → first_fault (seen (width_in i) embargoed i.store) (answers i v.calls) ≡ f
          → report_of d ≡ report_from (first_fault (seen (width_in i) embargoed i.store) (all_answers i)) (feeds_over (seen (width_in i) embargoed i.store) (handed_ids (all_answers i)))
      go None h =
          let n = v.whole (ap is_refusal (t.reason ∙ ap as_reason h)) in
          one None h
          ∙ ap whole_report (t.feeds ∙ ap (λ (j : ℕ). feeds_over (seen (width_in i) embargoed i.store) (handed_ids (answers i j))) n)
          ∙ ap (λ (f : Option Refusal). report_from f (feeds_over (seen (width_in i) embargoed i.store) (handed_ids (all_answers i)))) (sym (subst (λ (j : ℕ). first_fault (seen (width_in i) embargoed i.store) (answers i j) ≡ None) n h))
      go (Some r) h =
          one (Some r) h
          ∙ ap (λ (f : Option Refusal). report_from f (feeds_over (seen (width_in i) embargoed i.store) (handed_ids (all_answers i)))) (sym (fault_stays (seen (width_in i) embargoed i.store) i r v.calls (P i + 2) v.few h))

  -- the readings of the embargoed ids are those that this reader is not given, and the list refuses in no way
  pub feed-says : {reader : Reader} {e : List ℕ} {r : FeedReport} → embargoed ≡ withheld reader e → embargo_fault i e ≡ None → r ≡ report_of d → FeedSays reader e i m r m'
  unfolding feed_report
  feed-says {e = e} w g b =
      let o : open_embargoed i e (room_for i (lengths_of m)) ≡ open_walk i (room_for i (lengths_of m)) = fine_opens i e (room_for i (lengths_of m)) g in
      record {
        refused_open = λ q h. let u = s.refused_open q (sym o ∙ h) in (b ∙ ap report_of u.0, u.1);
        accepted_open = λ st h. b ∙ accepted st (sym o ∙ h) ∙ ap (λ (l : List ℕ). report_by (seen (width_in i) l i.store) i) w;
        same-lengths = s.same-lengths;
      }

-- the list itself refuses
pub fault_says : (reader : Reader) {i : Input} {m : Lent} {e : List ℕ} {r : FeedReport} (q : Refusal) → embargo_fault i e ≡ Some q → r ≡ refused_report q → FeedSays reader e i m r m
fault_says reader {i} {m} {e} q g b =
    let o : open_embargoed i e (room_for i (lengths_of m)) ≡ closed q = fault_opens i e (room_for i (lengths_of m)) q g in
    record {
      refused_open = λ p h. (b ∙ ap refused_report (closed_is (sym o ∙ h)), refl);
      accepted_open = λ st h. not_opened (sym o ∙ h);
      same-lengths = refl;
    }
