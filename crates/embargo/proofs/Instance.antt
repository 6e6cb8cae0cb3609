-- The two stores of the instance differ only in a feed digit: each part is computed. Assumes nothing.
use mathlib.Core.Path.{◌≡◌, refl, sym, ap, ◌∙◌}
use Prim.Native.Nat.{ℕ, zero, suc, ◌<◌}
use mathlib.Core.Bool.{true, false}
use mathlib.Core.List.{List, [], ◌∷◌}
use native.Mathlib.Omega.{arith}
use Rattle.hash.specs.Bytes.{id_bytes, among, bytes_all}
use Rattle.hash.proofs.Tests.{clash}
use Rattle.idlist.specs.IdList.{id_of, id_list_all}
use Rattle.object.specs.Header.{header_all}
use Rattle.odb.specs.Store.{entry_ids, entries, body, store_all}
use Rattle.commitgraph.specs.Graph.{graph_all}
use Rattle.walk.specs.Opening.{list_ids}
use Rattle.walk.specs.Calls.{walk_all}
use Rattle.walk.specs.AnyInput.{handed_by, handed_ids}
use Rattle.walk.specs.Runs.{id_for, id_wide}
use Rattle.tally.specs.Feeds.{feed_at, feed_for, feeds_over}
use Rattle.driver.specs.Walked.{whole_list}
use Rattle.reports.specs.declared.Reader.TheVariants.{Shop, Outside}
use Rattle.reports.specs.declared.FeedReport.{FeedReport}
use Rattle.reports.specs.Report.{first_fault, report_by, feed_report}
use Rattle.feed.specs.Feed.{feed_all}
use Rattle.embargo.specs.Embargo.{no_more, other-digit, same_line, cone-line, no_lines, one_more, SameButFeed, DifferOnlyInFeed, embargo_all}
use Rattle.embargo.specs.Instance.{store_with, fed_input, cone_alone, neither_of, OneDigit}

below_two : (A : ℕ → Type 0) → A 0 → A 1 → (k : ℕ) → k < 2 → A k
below_two A p q zero h = p
below_two A p q (suc zero) h = q
below_two A p q (suc (suc k)) h = absurd (omega arith)

abbrev before : List ℕ
before = store_with 53

abbrev after : List ℕ
after = store_with 55

-- how many entries there are, which of them is embargoed, and what differs in it
two : entries before ≡ 2
unfolding store_with bytes_all store_all
two = refl

first-is : among (id_of (entry_ids id_bytes before) 0) (list_ids id_bytes (id_for 1)) ≡ true
unfolding store_with id_wide list_ids bytes_all id_list_all store_all
first-is = refl

second_is_not : among (id_of (entry_ids id_bytes before) 1) (list_ids id_bytes (id_for 1)) ≡ false
unfolding store_with id_wide list_ids bytes_all id_list_all store_all
second_is_not = refl

second-same : body id_bytes before 1 ≡ body id_bytes after 1
unfolding store_with bytes_all store_all
second-same = refl

first-fed : SameButFeed (body id_bytes before 0) (body id_bytes after 0)
unfolding store_with bytes_all store_all feed_all embargo_all
first-fed = record {
  before = refl;
  message = one_more (cone-line {s = 53 ∷ []} {t = 55 ∷ []} (other-digit refl refl no_more)) (one_more same_line no_lines);
}

differ : DifferOnlyInFeed id_bytes (list_ids id_bytes (id_for 1)) before after
unfolding store_with id_wide bytes_all id_list_all header_all store_all
differ = record {
  good = refl;
  same_length = refl;
  same_entries = refl;
  others = λ k h.
      below_two (λ k. among (id_of (entry_ids id_bytes before) k) (list_ids id_bytes (id_for 1)) ≡ false → body id_bytes before k ≡ body id_bytes after k)
      (λ m. clash first-is m) (λ m. second-same) k (omega (arith, two, h));
  embargoed_ones = λ k h.
      below_two (λ k. among (id_of (entry_ids id_bytes before) k) (list_ids id_bytes (id_for 1)) ≡ true → SameButFeed (body id_bytes before k) (body id_bytes after k))
      (λ m. first-fed) (λ m. clash m second_is_not) k (omega (arith, two, h));
}

-- ---- the reports

abbrev cone : FeedReport → ℕ
cone r = r.cone_sum

shop-is : (feed_report Shop (id_for 1) (fed_input 53) ≡ cone_alone 5) × (feed_report Shop (id_for 1) (fed_input 55) ≡ cone_alone 7)
unfolding fed_input id_wide feed_report report_by first_fault feeds_over feed_for feed_at whole_list handed_ids handed_by bytes_all id_list_all header_all store_all graph_all feed_all walk_all
shop-is = (refl, refl)

outside-is : (feed_report Outside (id_for 1) (fed_input 53) ≡ neither_of) × (feed_report Outside (id_for 1) (fed_input 55) ≡ neither_of)
unfolding fed_input id_wide feed_report report_by first_fault feeds_over feed_for feed_at whole_list handed_ids handed_by bytes_all id_list_all header_all store_all graph_all feed_all walk_all
outside-is = (refl, refl)

pub one-digit : OneDigit
one-digit = record {
  differ = differ;
  shop-before = shop-is.0;
  shop-after = shop-is.1;
  shop_differs = λ h. let z : ◌≡◌ {A = ℕ} 5 7 = ap cone (sym shop-is.0 ∙ h ∙ shop-is.1) in omega (arith, z);
  outside-before = outside-is.0;
  outside-after = outside-is.1;
}
