-- What `terms_report` comes to: where a call is refused the calls up to it decide, and no count is kept; where none is all P + 2 calls are counted.
-- Assumes nothing.
use Rattle.std.specs.Prelude.{Result}
use mathlib.Core.Path.{◌≡◌, refl, sym, ◌∙◌, ap, subst}
use Prim.Native.Nat.{ℕ, ◌+◌}
use mathlib.Core.Bool.{true, false}
use mathlib.Core.List.{List}
use lib.ListN.{length}
use Rattle.hash.proofs.Tests.{clash}
use Rattle.calendar.specs.Terms.{good_terms}
use Rattle.walk.specs.declared.Refusal.{Refusal}
use Rattle.walk.specs.declared.Refusal.TheVariants.{BadTerms}
use Rattle.walk.specs.declared.Outcome.{Outcome}
use Rattle.walk.specs.declared.Outcome.TheVariants.{Commit, End, Refused}
use Rattle.walk.specs.State.{State}
use Rattle.walk.specs.Opening.{Input, width_in, P, room_for, closed, opened, open_walk}
use Rattle.walk.specs.Calls.{answers}
use Rattle.walk.specs.AnyInput.{handed_ids}
use Rattle.traverse.specs.Contract.{Lent, lengths_of}
use Rattle.driver.specs.declared.Driven.{Driven}
use Rattle.tally.specs.declared.Task.TheVariants.{Terms}
use Rattle.tally.specs.Tally.{is_refusal, no_tally, holding}
use Rattle.tally.specs.Terms.{good_part, zeros}
use Rattle.driver.specs.Walked.{all_answers, whole_list}
use Rattle.driver.specs.Says.{Drove, Drives}
use Rattle.tally.proofs.Counting.{good-is}
use Rattle.lister.specs.Walked.{first_refusal}
use Rattle.termsreport.specs.declared.TermsReport.{TermsReport}
use Rattle.termsreport.specs.Counts.{count_in, count_outside, counts_in}
use Rattle.termsreport.specs.Terms.{refused_terms, terms_by, kept_by, terms_report, terms_counts, TermsSays, opened_by, settled_by, report_of, settled}
use Rattle.termsreport.proofs.Counts.{counts-long}
use Rattle.termsreport.proofs.First.{first-stays}
use Rattle.termsreport.proofs.Counted.{Counted, counted-all}

-- after a list that is not good
pub bad-says : {i : Input} {terms : List ℕ} {m : Lent} {counts : List ℕ} {r : TermsReport} {counts' : List ℕ} → good_terms terms ≡ false → r ≡ refused_terms BadTerms → counts' ≡ zeros (length counts)
    → TermsSays i terms m counts r m counts'
bad-says b e z = record {
  bad-list = λ h. (e, refl, z);
  refused_open = λ h. clash h b;
  accepted_open = λ h. clash h b;
  same-lengths = refl;
}

module _ {i : Input} {m : Lent} {d : Driven} {m' : Lent} {embargoed terms ids counts ids' counts₁ : List ℕ} (good : good_terms terms ≡ true) (s : Drives Terms embargoed terms i m ids counts d m' ids' counts₁) where
  -- the same counts and outside, by how many calls were made
  abbrev said : ℕ → Outcome → TermsReport
  said k o = terms_by o (count_outside (width_in i) terms i.store (handed_ids (answers i k)))

  abbrev left : ℕ → Outcome → List ℕ
  left k o = kept_by o (counts_in (width_in i) terms i.store (handed_ids (answers i k)) (length counts))

  accepted : (st : State) → open_walk i (room_for i (lengths_of m)) ≡ opened st → (report_of d ≡ terms_report i terms) × (settled d counts₁ ≡ terms_counts i terms (length counts))
  unfolding terms_report terms_counts whole_list
  accepted st e = go (first_refusal (answers i v.calls)) refl
    where
      v : Drove Terms embargoed terms i (holding no_tally ids (zeros (length counts))) m.parents d m' ids' counts₁
      v = subst (λ (x : List ℕ). Drove Terms embargoed x i (holding no_tally ids (zeros (length counts))) m.parents d m' ids' counts₁) (sym (good-is terms good)) (s.accepted_open st e)

      t : Counted (width_in i) terms i.store (length counts) (answers i v.calls) (holding d.tally ids' counts₁)
      t = subst (Counted (width_in i) terms i.store (length counts) (answers i v.calls)) (sym v.made.held) (counted-all i embargoed terms ids (length counts) v.calls)

      one : report_of d ≡ said v.calls (first_refusal (answers i v.calls))
      one =
          ap (λ (o : Result (Unit {0}) Refusal). opened_by o d.tally.reason d.tally.outside) v.made.accepted
          ∙ ap (λ (o : Outcome). terms_by o d.tally.outside) t.reason
          ∙ ap (terms_by (first_refusal (answers i v.calls))) t.outside

      two : settled d counts₁ ≡ left v.calls (first_refusal (answers i v.calls))
      two =
          ap (λ (o : Result (Unit {0}) Refusal). settled_by o d.tally.reason counts₁) v.made.accepted
          ∙ ap (λ (o : Outcome). kept_by o counts₁) t.reason
          ∙ ap (kept_by (first_refusal (answers i v.calls))) t.counts

      -- all calls were made
      whole : v.calls ≡ P i + 2
          → (report_of d ≡ said (P i + 2) (first_refusal (all_answers i))) × (settled d counts₁ ≡ left (P i + 2) (first_refusal (all_answers i)))
      whole n = (
        one ∙ ap (λ (k : ℕ). said k (first_refusal (answers i k))) n,
        two ∙ ap (λ (k : ℕ). left k (first_refusal (answers i k))) n,
      )

      go : (o : Outcome) → first_refusal (answers i v.calls) ≡ o
          → (report_of d ≡ said (P i + 2) (first_refusal (all_answers i))) × (settled d counts₁ ≡ left (P i + 2) (first_refusal (all_answers i)))
      go Commit h = whole (v.whole (ap is_refusal (t.reason ∙ h)))
      go End h = whole (v.whole (ap is_refusal (t.reason ∙ h)))
      go (Refused r) h =
          let y : first_refusal (all_answers i) ≡ Refused r = first-stays i r v.calls (P i + 2) v.few h in
          let a : length (counts_in (width_in i) terms i.store (handed_ids (answers i v.calls)) (length counts)) ≡ length counts = counts-long (count_in (width_in i) terms i.store (handed_ids (answers i v.calls))) (length counts) in
          let b : length (counts_in (width_in i) terms i.store (handed_ids (answers i (P i + 2))) (length counts)) ≡ length counts = counts-long (count_in (width_in i) terms i.store (handed_ids (answers i (P i + 2)))) (length counts) in (
            one ∙ ap (said v.calls) h ∙ ap (said (P i + 2)) (sym y),
            two ∙ ap (left v.calls) h ∙ ap zeros (a ∙ sym b) ∙ ap (left (P i + 2)) (sym y),
          )

  refused : (q : Refusal) → open_walk i (room_for i (lengths_of m)) ≡ closed q → (report_of d ≡ refused_terms q) × (m' ≡ m) × (settled d counts₁ ≡ zeros (length counts))
  refused q e = let u = s.refused_open q e in (ap report_of u.0, u.1, ap (λ (x : Driven). settled x counts₁) u.0 ∙ u.3)

  pub terms-says : {r : TermsReport} {counts' : List ℕ} → r ≡ report_of d → counts' ≡ settled d counts₁ → TermsSays i terms m counts r m' counts'
  terms-says a b = record {
    bad-list = λ h. clash good h;
    refused_open = λ h q e. let u = refused q e in (a ∙ u.0, u.1, b ∙ u.2);
    accepted_open = λ h st e. let u = accepted st e in (a ∙ u.0, b ∙ u.1);
    same-lengths = s.same-lengths;
  }
