-- The counts of a whole report add up to the commits handed out; and under the premises the report is that of the third demand's list, which the
-- whole walk hands out. Assumes nothing.
use Rattle.std.specs.Prelude.{Err, None, Ok, Result}
use mathlib.Core.Path.{◌≡◌, refl, sym, ◌∙◌, ap, subst}
use Prim.Native.Nat.{ℕ, ◌+◌, ◌/◌, ◌≤◌}
use mathlib.Core.Bool.{Bool, true, false}
use mathlib.Core.List.{List}
use native.Mathlib.Omega.{arith}
use lib.ListN.{length}
use Rattle.hash.specs.Bytes.{Id}
use Rattle.calendar.specs.Terms.{good_terms}
use Rattle.walk.specs.declared.Refusal.{Refusal}
use Rattle.walk.specs.declared.Refusal.TheVariants.{BadTerms}
use Rattle.walk.specs.declared.Outcome.{Outcome}
use Rattle.walk.specs.declared.Outcome.TheVariants.{Commit, End, Refused as Stopped}
use Rattle.walk.specs.Opening.{Input, width_in, walk_of, list_ids, refusal, P, room_for, Opening, closed, opened, open_walk}
use Rattle.walk.specs.Demand.{Premises}
use Rattle.traverse.specs.Contract.{Lent, lengths_of}
use Rattle.driver.specs.Walked.{all_answers, whole_list}
use Rattle.driver.proofs.Whole.{listed-whole}
use Rattle.lister.specs.Walked.{first_refusal}
use Rattle.lister.proofs.Refusals.{hands_none}
use Rattle.termsreport.specs.declared.TermsReport.{TermsReport}
use Rattle.termsreport.specs.Counts.{count_outside, counts_in, sum}
use Rattle.termsreport.specs.Terms.{terms_by, kept_by, terms_report, terms_counts, TermsSays}
use Rattle.termsreport.specs.Demand.{OfListed, TermsDemand}
use Rattle.termsreport.proofs.Adding.{past-none, counts_all}

not-whole {ℓ} : {X : Type ℓ} (q : Refusal) → ◌≡◌ {A = Result (Unit {0}) Refusal} (Err q) (Ok tt) → X
not-whole q e = let z : ◌≡◌ {A = ℕ} 0 1 = cc in absurd (omega arith)

-- a whole report of a walk
whole_adds : (i : Input) (terms : List ℕ) (n : ℕ) → length terms / 2 ≤ n → (terms_report i terms).outcome ≡ (Ok tt) → sum (terms_counts i terms n) + (terms_report i terms).outside ≡ length (whole_list i)
unfolding terms_report terms_counts
whole_adds i terms n h o = go (first_refusal (all_answers i)) o
  where
    go : (f : Outcome) → (terms_by f (count_outside (width_in i) terms i.store (whole_list i))).outcome ≡ (Ok tt)
        → sum (kept_by f (counts_in (width_in i) terms i.store (whole_list i) n)) + (terms_by f (count_outside (width_in i) terms i.store (whole_list i))).outside ≡ length (whole_list i)
    go Commit w = counts_all (width_in i) terms i.store (whole_list i) n h
    go End w = counts_all (width_in i) terms i.store (whole_list i) n h
    go (Stopped q) w = not-whole q w

module _ (i : Input) (terms : List ℕ) (m : Lent) (counts : List ℕ) (r : TermsReport) (m' : Lent) (counts' : List ℕ) (s : TermsSays i terms m counts r m' counts') where
  adds : length terms / 2 ≤ length counts → r.outcome ≡ (Ok tt) → sum counts' + r.outside ≡ length (whole_list i)
  adds h o = by-list (good_terms terms) refl
    where
      by-opening : good_terms terms ≡ true → (w : Opening) → open_walk i (room_for i (lengths_of m)) ≡ w → sum counts' + r.outside ≡ length (whole_list i)
      by-opening g (closed q) e = not-whole q (sym (ap (λ (x : TermsReport). x.outcome) (s.refused_open g q e).0) ∙ o)
      by-opening g (opened st) e =
          let k = s.accepted_open g st e in
          let a : sum counts' ≡ sum (terms_counts i terms (length counts)) = ap sum k.1 in
          let b : r.outside ≡ (terms_report i terms).outside = ap (λ (x : TermsReport). x.outside) k.0 in
          omega (arith, a, b, whole_adds i terms (length counts) h (sym (ap (λ (x : TermsReport). x.outcome) k.0) ∙ o))

      by-list : (b : Bool) → good_terms terms ≡ b → sum counts' + r.outside ≡ length (whole_list i)
      by-list true g = by-opening g (open_walk i (room_for i (lengths_of m))) refl
      by-list false g = not-whole BadTerms (sym (ap (λ (x : TermsReport). x.outcome) (s.bad-list g).0) ∙ o)

  of-listed : good_terms terms ≡ true → refusal i ≡ None → room_for i (lengths_of m) ≡ true → Premises (walk_of i) (list_ids (width_in i) i.tips) → OfListed i terms counts r counts'
  unfolding terms_report terms_counts
  of-listed g e room pre =
      let q = listed-whole i e pre in
      let d = q.0 in
      let k = s.accepted_open g d.state (ap (open_walk i) room ∙ d.accepted) in
      let f : first_refusal (all_answers i) ≡ End = (hands_none (all_answers i) (d.handed_out (P i + 2))).1 in
      record {
        list = d.list;
        no_repeats = d.different;
        exactly = d.exactly;
        is = k.0 ∙ ap (λ (o : Outcome). terms_by o (count_outside (width_in i) terms i.store (whole_list i))) f ∙ ap (λ (l : List Id). terms_by End (count_outside (width_in i) terms i.store l)) q.1;
        counts_are =
            k.1
            ∙ ap (λ (o : Outcome). kept_by o (counts_in (width_in i) terms i.store (whole_list i) (length counts))) f
            ∙ ap (λ (l : List Id). counts_in (width_in i) terms i.store l (length counts)) q.1;
      }

pub terms_demand : (i : Input) (terms : List ℕ) (m : Lent) (counts : List ℕ) → TermsDemand i terms m counts
terms_demand i terms m counts = record {
  adds_up = λ r m' counts' s. adds i terms m counts r m' counts' s;
  past-terms = λ l k h. past-none (width_in i) terms i.store l k h;
  demanded = λ r m' counts' s. of-listed i terms m counts r m' counts' s;
}
