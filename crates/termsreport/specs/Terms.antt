-- The report by terms (document 02, card 9, "Terms and seasons") over a whole walk. Assumes nothing.
use Rattle.std.specs.Prelude.{ℕ, ◌≡◌, true, false, List, length, Err, Ok, Result}
use Rattle.calendar.specs.Terms.{good_terms}
use Rattle.walk.specs.declared.Refusal.{Refusal}
use Rattle.walk.specs.declared.Refusal.TheVariants.{BadTerms}
use Rattle.walk.specs.declared.Outcome.{Outcome}
use Rattle.walk.specs.declared.Outcome.TheVariants.{Commit, End, Refused as Stopped}
use Rattle.walk.specs.State.{State}
use Rattle.walk.specs.Opening.{Input, width_in, room_for, open_walk, closed, opened}
use Rattle.traverse.specs.Contract.{Lent, lengths_of}
use Rattle.driver.specs.declared.Driven.{Driven}
use Rattle.tally.specs.Terms.{zeros}
use Rattle.driver.specs.Walked.{all_answers, whole_list}
use Rattle.lister.specs.Walked.{first_refusal}
use Rattle.termsreport.specs.declared.TermsReport.{TermsReport}
use Rattle.termsreport.specs.Counts.{count_outside, counts_in}

-- ---- a report, beside its counts

-- "with that number and zeros"
abbrev pub refused_terms : Refusal → TermsReport
refused_terms r = record { outcome = Err r; outside = 0 }

abbrev pub whole_terms : ℕ → TermsReport
whole_terms n = record { outcome = (Ok tt); outside = n }

-- "A walk's own refusal ends this report with that number and zeros": by the first refusal, or End
abbrev pub terms_by : Outcome → ℕ → TermsReport
terms_by Commit n = whole_terms n
terms_by End n = whole_terms n
terms_by (Stopped r) n = refused_terms r

abbrev pub kept_by : Outcome → List ℕ → List ℕ
kept_by Commit c = c
kept_by End c = c
kept_by (Stopped r) c = zeros (length c)

-- "a report of its own counts the walk's runs in each and outside all"
unfoldable pub terms_report : Input → List ℕ → TermsReport
terms_report i terms = terms_by (first_refusal (all_answers i)) (count_outside (width_in i) terms i.store (whole_list i))

-- and its n counts
unfoldable pub terms_counts : Input → List ℕ → ℕ → List ℕ
terms_counts i terms n = kept_by (first_refusal (all_answers i)) (counts_in (width_in i) terms i.store (whole_list i) n)

-- ---- terms_report

-- with the caller's buffer counts before and counts' after, and the lent memory m before and m' after
pub record TermsSays (i : Input) (terms : List ℕ) (m : Lent) (counts : List ℕ) (r : TermsReport) (m' : Lent) (counts' : List ℕ) : Type 0 where
  -- "after 24 it is zeros", and it comes "before the walk opens": no byte of the walk's memory is altered
  pub bad-list : good_terms terms ≡ false → (r ≡ refused_terms BadTerms) × (m' ≡ m) × (counts' ≡ zeros (length counts))
  -- refused as the opening is, with no byte of the walk's memory altered
  pub refused_open : good_terms terms ≡ true → (q : Refusal) → open_walk i (room_for i (lengths_of m)) ≡ closed q → (r ≡ refused_terms q) × (m' ≡ m) × (counts' ≡ zeros (length counts))
  -- or the report of the whole walk, with all of the walk's memory free
  pub accepted_open : good_terms terms ≡ true → (st : State) → open_walk i (room_for i (lengths_of m)) ≡ opened st
      → (r ≡ terms_report i terms) × (counts' ≡ terms_counts i terms (length counts))
  pub same-lengths : lengths_of m' ≡ lengths_of m

-- ---- its parts

abbrev pub opened_by : Result (Unit {0}) Refusal → Outcome → ℕ → TermsReport
opened_by (Ok _) o n = terms_by o n
opened_by (Err r) o n = refused_terms r

abbrev pub settled_by : Result (Unit {0}) Refusal → Outcome → List ℕ → List ℕ
settled_by (Ok _) o c = kept_by o c
settled_by (Err r) o c = c

abbrev pub report_of : Driven → TermsReport
report_of d = opened_by d.outcome d.tally.reason d.tally.outside

abbrev pub settled : Driven → List ℕ → List ℕ
settled d c = settled_by d.outcome d.tally.reason c
