-- A report is made of the opening, of the answers, and of what its reader is given of each commit: for an outside reader the readings of commits that
-- are not embargoed, whose bodies are the same, and for the report by terms the seconds, which stand in the header. So the reports are the same.
-- Assumes nothing.
use Rattle.std.specs.Prelude.{None, Option, Result}
use Rattle.feed.specs.declared.Feed.{Feed}
use Rattle.walk.specs.declared.Refusal.{Refusal}
use mathlib.Core.Path.{◌≡◌, refl, sym, ap, ◌∙◌}
use mathlib.Core.Bool.{Bool, true, false, cond, ◌&&◌}
use mathlib.Core.List.{List, [], ◌∷◌}
use Prim.Native.Nat.{ℕ, ◌+◌, ◌%◌}
use lib.ListN.{length}
use lib.Dec.{eqb, leb}
use lib.IntN.{ℤ}
use Rattle.hash.specs.Bytes.{Id, among, if_some}
use Rattle.hash.proofs.Tests.{by_cases}
use Rattle.calendar.specs.Terms.{good_terms}
use Rattle.feed.specs.Feed.{feed_of}
use Rattle.walk.specs.declared.Refusal.TheVariants.{InputTooLarge, PartialId}
use Rattle.walk.specs.Lookup.{world_of, store_seconds}
use Rattle.walk.specs.Opening.{Input, width_in, list_ids, list_limit, sizes_ok, whole_ids, room_for, Opening, closed, opened, open_walk}
use Rattle.walk.specs.Calls.{up_to}
use Rattle.traverse.specs.Contract.{Lent, lengths_of}
use Rattle.tally.specs.Feeds.{no_reading, feed_at, feed_for, feeds_over}
use Rattle.tally.specs.Terms.{spot_at, term_of, zeros}
use Rattle.lister.specs.Walked.{first_refusal}
use Rattle.reports.specs.declared.Reader.TheVariants.{Outside}
use Rattle.reports.specs.declared.FeedReport.{FeedReport}
use Rattle.reports.specs.Report.{refused_report, first_fault, report_from, report_by, readings_for, feed_report, open_embargoed, FeedSays}
use Rattle.termsreport.specs.declared.TermsReport.{TermsReport}
use Rattle.termsreport.specs.Counts.{one_in, one_outside, count_in, count_outside}
use Rattle.termsreport.specs.Terms.{terms_by, kept_by, terms_report, terms_counts, TermsSays}
use Rattle.embargo.specs.Embargo.{DifferOnlyInFeed}
use Rattle.embargo.specs.Outside.{over, SameFeeds, SameTerms, NothingShown, EmbargoHolds}
use Rattle.embargo.proofs.Worlds.{other-found}
use Rattle.embargo.proofs.Walks.{world_same, room-same, same-walk}
use Rattle.embargo.proofs.Called.{open-same, answers-alike, calls-alike, lists-alike, all_same, list_same}

-- ---- the readings

pub outside-same : (w : ℕ) (es : List Id) (a b : List ℕ) → DifferOnlyInFeed w es a b → (x : Id) → feed_for w es a x ≡ feed_for w es b x
unfolding feed_for feed_at
outside-same w es a b d x =
    by_cases (among x es)
    (λ m. rw m)
    (λ m. rw m (ap (λ (o : Option (List ℕ)). if_some o no_reading (λ c. feed_of c)) (other-found w es a b d x m)))

module _ (i : Input) (e a b : List ℕ) (d : DifferOnlyInFeed (width_in i) (list_ids (width_in i) e) a b) where
  -- ---- the feed report

  report-same : feed_report Outside e (over i a) ≡ feed_report Outside e (over i b)
  unfolding feed_report report_by
  report-same =
      let f : readings_for (width_in i) Outside e a ≡ readings_for (width_in i) Outside e b = λ j x. outside-same (width_in i) (list_ids (width_in i) e) a b d x j in
      λ j. report_from (first_fault (f j) (all_same i (list_ids (width_in i) e) a b d j)) (feeds_over (f j) (list_same i (list_ids (width_in i) e) a b d j))

  sizes-same : sizes_ok (over i a) ≡ sizes_ok (over i b)
  unfolding sizes_ok
  sizes-same = rw d.same_length

  opens-same : (m n : Lent) → lengths_of m ≡ lengths_of n → open_embargoed (over i a) e (room_for (over i a) (lengths_of m)) ≡ open_embargoed (over i b) e (room_for (over i b) (lengths_of n))
  unfolding open_embargoed whole_ids
  opens-same m n l = λ j.
      cond (sizes-same j && leb (length e) (list_limit (width_in i)))
      (cond (whole_ids (over i a) && eqb (length e % width_in i) 0) (open-same i (list_ids (width_in i) e) a b d m n l j) (closed PartialId))
      (closed InputTooLarge)

  feeds-alike : SameFeeds e (over i a) (over i b)
  unfolding SameFeeds
  feeds-alike m n l r q m' n' s t = go (open_embargoed (over i a) e (room_for (over i a) (lengths_of m))) refl
    where
      go : (z : Opening) → open_embargoed (over i a) e (room_for (over i a) (lengths_of m)) ≡ z → r ≡ q
      go (closed p) h = (s.refused_open p h).0 ∙ sym (t.refused_open p (sym (opens-same m n l) ∙ h)).0
      go (opened st) h = s.accepted_open st h ∙ report-same ∙ sym (t.accepted_open st (sym (opens-same m n l) ∙ h))

  -- ---- the report by terms

  seconds-same : (x : Id) → store_seconds (world_of (width_in i) a []) x ≡ store_seconds (world_of (width_in i) b []) x
  seconds-same x = λ j. store_seconds (world_same i (list_ids (width_in i) e) a b d [] j) x

  module _ (terms : List ℕ) where
    term-same : (x : Id) → term_of (width_in i) terms a x ≡ term_of (width_in i) terms b x
    unfolding term_of
    term-same x = ap (λ (o : Option ℤ). if_some o None (λ t. spot_at terms t)) (seconds-same x)

    count_same : (l : List Id) (k : ℕ) → count_in (width_in i) terms a l k ≡ count_in (width_in i) terms b l k
    unfolding count_in
    count_same [] k = refl
    count_same (x ∷ l) k = λ j. one_in k (term-same x j) + count_same l k j

    outside-count : (l : List Id) → count_outside (width_in i) terms a l ≡ count_outside (width_in i) terms b l
    unfolding count_outside
    outside-count [] = refl
    outside-count (x ∷ l) = λ j. one_outside (term-same x j) + outside-count l j

    terms-same : terms_report (over i a) terms ≡ terms_report (over i b) terms
    unfolding terms_report
    terms-same =
        ap (terms_by (first_refusal _)) (outside-count _)
        ∙ (λ j. terms_by (first_refusal (all_same i (list_ids (width_in i) e) a b d j)) (count_outside (width_in i) terms b (list_same i (list_ids (width_in i) e) a b d j)))

    counts_same : (n : ℕ) → terms_counts (over i a) terms n ≡ terms_counts (over i b) terms n
    unfolding terms_counts
    counts_same n =
        let f : (l : List Id) → count_in (width_in i) terms a l ≡ count_in (width_in i) terms b l = λ l j k. count_same l k j in
        λ j. kept_by (first_refusal (all_same i (list_ids (width_in i) e) a b d j)) (up_to (f (list_same i (list_ids (width_in i) e) a b d j) j) n)

    terms-alike : (m n : Lent) → lengths_of m ≡ lengths_of n → (c f : List ℕ) → length c ≡ length f → (r q : TermsReport) (m' n' : Lent) (c' f' : List ℕ)
        → TermsSays (over i a) terms m c r m' c' → TermsSays (over i b) terms n f q n' f' → (r ≡ q) × (c' ≡ f')
    terms-alike m n l c f k r q m' n' c' f' s t = by-list (good_terms terms) refl
      where
        opening : good_terms terms ≡ true → (z : Opening) → open_walk (over i a) (room_for (over i a) (lengths_of m)) ≡ z → (r ≡ q) × (c' ≡ f')
        opening g (closed p) h =
            let x = s.refused_open g p h in
            let y = t.refused_open g p (sym (open-same i (list_ids (width_in i) e) a b d m n l) ∙ h) in
            (x.0 ∙ sym y.0, x.2 ∙ ap zeros k ∙ sym y.2)
        opening g (opened st) h =
            let x = s.accepted_open g st h in
            let y = t.accepted_open g st (sym (open-same i (list_ids (width_in i) e) a b d m n l) ∙ h) in
            (x.0 ∙ terms-same ∙ sym y.0, x.1 ∙ counts_same (length c) ∙ ap (terms_counts (over i b) terms) k ∙ sym y.1)

        by-list : (z : Bool) → good_terms terms ≡ z → (r ≡ q) × (c' ≡ f')
        by-list true g = opening g (open_walk (over i a) (room_for (over i a) (lengths_of m))) refl
        by-list false g =
            let x = s.bad-list g in
            let y = t.bad-list g in
            (x.0 ∙ sym y.0, x.2 ∙ ap zeros k ∙ sym y.2)

  terms-shown : SameTerms (over i a) (over i b)
  unfolding SameTerms
  terms-shown terms = terms-alike terms

-- card 10
pub embargo_holds : EmbargoHolds
unfolding EmbargoHolds
embargo_holds i e a b d = record {
  walk = same-walk i (list_ids (width_in i) e) a b d;
  calls = record { opened = answers-alike i (list_ids (width_in i) e) a b d; called = calls-alike i (list_ids (width_in i) e) a b d };
  lists = lists-alike i (list_ids (width_in i) e) a b d;
  feeds = feeds-alike i e a b d;
  terms = terms-shown i e a b d;
}
