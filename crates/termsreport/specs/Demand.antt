-- What the counts of a report by terms add up to, and the third demand for a caller of `terms_report` alone, from what it promises (`TermsSays`).
-- Assumes nothing.
use Rattle.std.specs.Prelude.{ℕ, ◌+◌, ◌/◌, ◌≤◌, ◌≡◌, ◌↔◌, true, List, length, None, Ok}
use Rattle.hash.specs.Bytes.{Id}
use Rattle.calendar.specs.Terms.{good_terms}
use Rattle.walk.specs.Opening.{Input, width_in, walk_of, list_ids, refusal, room_for}
use Rattle.walk.specs.Reach.{Mem, NoDup}
use Rattle.walk.specs.Demand.{Premises, Listed}
use Rattle.traverse.specs.Contract.{Lent, lengths_of}
use Rattle.driver.specs.Walked.{whole_list}
use Rattle.termsreport.specs.declared.TermsReport.{TermsReport}
use Rattle.termsreport.specs.Counts.{count_in, count_outside, counts_in, sum}
use Rattle.termsreport.specs.Terms.{whole_terms, TermsSays}

-- under the premises the report is about the commits to be listed, each once, and no others; no refusal of the walk comes
pub record OfListed (i : Input) (terms counts : List ℕ) (r : TermsReport) (counts' : List ℕ) : Type 0 where
  pub list : List Id
  pub no_repeats : NoDup list
  pub exactly : (x : Id) → Mem x list ↔ Listed (walk_of i) (list_ids (width_in i) i.tips) x
  pub is : r ≡ whole_terms (count_outside (width_in i) terms i.store list)
  pub counts_are : counts' ≡ counts_in (width_in i) terms i.store list (length counts)

-- of `terms_report` with the input i, the terms, the lent memory m and the buffer counts, whatever it gave back
pub record TermsDemand (i : Input) (terms : List ℕ) (m : Lent) (counts : List ℕ) : Type 0 where
  -- "Unless refused, the counts add up to the runs handed out", where each term has a place
  pub adds_up : (r : TermsReport) (m' : Lent) (counts' : List ℕ) → TermsSays i terms m counts r m' counts' → length terms / 2 ≤ length counts → r.outcome ≡ (Ok tt)
      → sum counts' + r.outside ≡ length (whole_list i)
  -- past the terms every count is 0
  pub past-terms : (l : List Id) (k : ℕ) → length terms / 2 ≤ k → count_in (width_in i) terms i.store l k ≡ 0
  pub demanded : (r : TermsReport) (m' : Lent) (counts' : List ℕ) → TermsSays i terms m counts r m' counts' → good_terms terms ≡ true → refusal i ≡ None → room_for i (lengths_of m) ≡ true
      → Premises (walk_of i) (list_ids (width_in i) i.tips) → OfListed i terms counts r counts'
