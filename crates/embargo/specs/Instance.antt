-- Two stores that differ in one feed digit of an embargoed commit: what the shop's reader and an outside reader are given. Assumes nothing.
use Rattle.std.specs.Prelude.{◌≡◌, ℕ, ◌+◌, List, [], ◌∷◌, ◌++◌, length, pos, Ok}
use Rattle.hash.specs.Bytes.{id_bytes}
use Rattle.walk.specs.Opening.{Input, list_ids}
use Rattle.walk.specs.Runs.{id_for, hexes, u32, who, zone, decimal, parents_text, body_of, input, all, newest, id_wide, names_wide}
use Rattle.walk.specs.Runs as runs
use Rattle.feed.specs.Feed.{cone_start}
use Rattle.reports.specs.declared.Reader.TheVariants.{Shop, Outside}
use Rattle.reports.specs.declared.FeedReport.{FeedReport}
use Rattle.reports.specs.Report.{feed_report}
use Rattle.embargo.specs.Embargo.{DifferOnlyInFeed}

-- a commit 1 whose message is `Cone-feed: ` and a digit, and a commit 2 with no message, whose parent it is
unfoldable pub fed : ℕ → List ℕ
unfolding body_of parents_text id_wide hexes who zone decimal runs.digit
fed d = body_of id_bytes (record { name = 1; time = 5; from = [] }) ++ (cone_start ++ (d ∷ 10 ∷ []))

unfoldable pub unfed : List ℕ
unfolding body_of parents_text id_wide hexes who zone decimal runs.digit
unfed = body_of id_bytes (record { name = 2; time = 6; from = 1 ∷ [] })

unfoldable pub store_with : ℕ → List ℕ
unfolding fed unfed id_wide u32
store_with d =
    let m = length (fed d) in
    let n = m + length unfed in
    fed d ++ (unfed ++ (id_for 1 ++ (u32 m ++ (id_for 2 ++ (u32 n ++ (u32 n ++ u32 2))))))

-- both commits, from the tip 2, newest first
unfoldable pub fed_input : ℕ → Input
unfolding store_with input names_wide id_wide all
fed_input d = input (store_with d) (2 ∷ []) [] [] (all newest)

-- a report with this cone's reading, of one commit, and another without; and one without any
abbrev pub cone_alone : ℕ → FeedReport
cone_alone n = record { outcome = (Ok tt); both = 0; cone = 1; bed = 0; neither = 1; cone_sum = n; bed_sum = 0; difference = pos 0 }

abbrev pub neither_of : FeedReport
neither_of = record { outcome = (Ok tt); both = 0; cone = 0; bed = 0; neither = 2; cone_sum = 0; bed_sum = 0; difference = pos 0 }

-- with the digits 5 and 7, where commit 1 is embargoed
pub record OneDigit : Type 0 where
  pub differ : DifferOnlyInFeed id_bytes (list_ids id_bytes (id_for 1)) (store_with 53) (store_with 55)
  -- the shop's reader is given 5 or 7: its reports are not the same
  pub shop-before : feed_report Shop (id_for 1) (fed_input 53) ≡ cone_alone 5
  pub shop-after : feed_report Shop (id_for 1) (fed_input 55) ≡ cone_alone 7
  pub shop_differs : feed_report Shop (id_for 1) (fed_input 53) ≡ feed_report Shop (id_for 1) (fed_input 55) → ⊥
  -- an outside reader neither
  pub outside-before : feed_report Outside (id_for 1) (fed_input 53) ≡ neither_of
  pub outside-after : feed_report Outside (id_for 1) (fed_input 55) ≡ neither_of
