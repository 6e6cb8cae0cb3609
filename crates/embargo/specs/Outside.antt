-- Embargoed readings (document 02, card 10): "every outside listing and report is the same". Assumes nothing.
use Rattle.std.specs.Prelude.{◌≡◌, ℕ, Bool, List, length}
use Rattle.walk.specs.Opening.{Input, width_in, list_ids, open_walk, P}
use Rattle.walk.specs.Calls.{state_after, answer_at_call, answers}
use Rattle.traverse.specs.declared.Opened.{Opened}
use Rattle.traverse.specs.Contract.{Lent, lengths_of, OpenSays}
use Rattle.traverse.specs.Demand.{Call, Calls, files_of, CallIs}
use Rattle.lister.specs.declared.Listing.{Listing}
use Rattle.lister.specs.Says.{ListSays}
use Rattle.reports.specs.declared.Reader.TheVariants.{Shop, Outside}
use Rattle.reports.specs.declared.FeedReport.{FeedReport}
use Rattle.reports.specs.Report.{FeedSays}
use Rattle.termsreport.specs.declared.TermsReport.{TermsReport}
use Rattle.termsreport.specs.Terms.{TermsSays}
use Rattle.embargo.specs.Embargo.{DifferOnlyInFeed}

-- "with all else alike": the same opening over another store
abbrev pub over : Input → List ℕ → Input
over i store = record { store = store; graph = i.graph; tips = i.tips; hidden = i.hidden; excluded = i.excluded; settings = i.settings }

-- ---- listings

-- the walks of two openings: with and without room, after any number of calls
pub record SameWalk (i j : Input) : Type 0 where
  pub places : P i ≡ P j
  pub opening : (room : Bool) → open_walk i room ≡ open_walk j room
  pub state-after : (k : ℕ) → state_after i k ≡ state_after j k
  pub answer_at : (k : ℕ) → answer_at_call i k ≡ answer_at_call j k
  pub all-answers : (k : ℕ) → answers i k ≡ answers j k

-- two calls: "id, parents, level, seconds and zone" and all else that the answers say; and the parents' ids, in buffers that were the same
pub record Alike (c d : Call) : Type 0 where
  pub same_answer : c.out.answer ≡ d.out.answer
  pub same-ids : c.lent.parents ≡ d.lent.parents → c.left.parents ≡ d.left.parents

-- two openings in memory of the same lengths, and any lists of next calls after them
pub record SameCalls (i j : Input) : Type 0 where
  pub opened : (m n : Lent) → lengths_of m ≡ lengths_of n → (o q : Opened) (m' n' : Lent) → OpenSays i m o m' → OpenSays j n q n' → o.answer ≡ q.answer
  pub called : (m n : Lent) → lengths_of m ≡ lengths_of n → (o q : Opened) (m' n' : Lent) → OpenSays i m o m' → OpenSays j n q n'
      → (cs ds : List Call) → Calls (files_of i) o.record m' cs → Calls (files_of j) q.record n' ds
      → (k : ℕ) (c d : Call) → CallIs cs k c → CallIs ds k d → Alike c d

-- two whole listings, into buffers that were the same
pub record SameListing (l k : Listing) (ids ids' : List ℕ) : Type 0 where
  pub outcome : l.outcome ≡ k.outcome
  pub commits : l.commits ≡ k.commits
  pub refused : l.refused ≡ k.refused
  pub reason : l.reason ≡ k.reason
  pub set_down : ids ≡ ids'

unfoldable pub SameLists : Input → Input → Type 0
SameLists i j = (m n : Lent) → lengths_of m ≡ lengths_of n → (ids : List ℕ) (l k : Listing) (m' n' : Lent) (ids' ids'' : List ℕ)
    → ListSays i m ids l m' ids' → ListSays j n ids k n' ids'' → SameListing l k ids' ids''

-- ---- reports

-- two feed reports for an outside reader with the embargoed list e, in memory of the same lengths, whatever they gave back
unfoldable pub SameFeeds : List ℕ → Input → Input → Type 0
SameFeeds e i j = (m n : Lent) → lengths_of m ≡ lengths_of n → (r q : FeedReport) (m' n' : Lent) → FeedSays Outside e i m r m' → FeedSays Outside e j n q n' → r ≡ q

-- two reports by terms, which have no readings in them, with as many counts
unfoldable pub SameTerms : Input → Input → Type 0
SameTerms i j = (terms : List ℕ) (m n : Lent) → lengths_of m ≡ lengths_of n → (c d : List ℕ) → length c ≡ length d → (r q : TermsReport) (m' n' : Lent) (c' d' : List ℕ)
    → TermsSays i terms m c r m' c' → TermsSays j terms n d q n' d' → (r ≡ q) × (c' ≡ d')

-- ---- the claim

-- of an opening's input with the store replaced by either of two that so differ
pub record NothingShown (i : Input) (e a b : List ℕ) : Type 0 where
  pub walk : SameWalk (over i a) (over i b)
  pub calls : SameCalls (over i a) (over i b)
  pub lists : SameLists (over i a) (over i b)
  pub feeds : SameFeeds e (over i a) (over i b)
  pub terms : SameTerms (over i a) (over i b)

-- for every list e of embargoed ids, as lent
unfoldable pub EmbargoHolds : Type 0
EmbargoHolds = (i : Input) (e a b : List ℕ) → DifferOnlyInFeed (width_in i) (list_ids (width_in i) e) a b → NothingShown i e a b
