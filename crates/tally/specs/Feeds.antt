-- The numbers of a feed report (document 02, cards 5 and 10), over any list of commits. Assumes nothing.
use Rattle.std.specs.Prelude.{ℕ, ◌+◌, ◌*◌, ◌≤◌, ◌≡◌, cond, List, [], ◌∷◌, Err, None, Ok, Option, Result, Some}
use Rattle.walk.specs.declared.Refusal.{Refusal}
use Rattle.hash.specs.Bytes.{Id, among, if_some}
use Rattle.odb.specs.Store.{store_find}
use Rattle.feed.specs.declared.Feed.{Feed}
use Rattle.feed.specs.Feed.{feed_of, most_millimetres}
use Rattle.tally.specs.declared.feeds.Feeds.{Feeds}

-- ---- one commit

-- neither reading, and no fault
abbrev pub no_reading : Result Feed Refusal
no_reading = Ok (record { cone = None; bed = None })

-- "A commit found only in the graph has no message and counts as neither": the readings of a commit, by its body in the store
unfoldable pub feed_at : ℕ → List ℕ → Id → Result Feed Refusal
feed_at w s x = if_some (store_find w s x) no_reading (λ b. feed_of b)

-- the same for a reader from whom the readings of some ids are withheld (card 10): "its feed counts as neither reading", and they "never cause 21
-- or 22"
unfoldable pub feed_for : ℕ → List Id → List ℕ → Id → Result Feed Refusal
feed_for w withheld s x = cond (among x withheld) no_reading (feed_at w s x)

abbrev pub no_feeds : Feeds
no_feeds = record { both = 0; cone = 0; bed = 0; neither = 0; cone_sum = 0; bed_sum = 0; paired_cone = 0; paired_bed = 0 }

-- "both, cone alone, bed alone and neither, the two exact sums over all readings, and for paired runs …"
abbrev pub feeds_of : Option ℕ → Option ℕ → Feeds
feeds_of (Some c) (Some b) = record { both = 1; cone = 0; bed = 0; neither = 0; cone_sum = c; bed_sum = b; paired_cone = c; paired_bed = b }
feeds_of (Some c) None = record { both = 0; cone = 1; bed = 0; neither = 0; cone_sum = c; bed_sum = 0; paired_cone = 0; paired_bed = 0 }
feeds_of None (Some b) = record { both = 0; cone = 0; bed = 1; neither = 0; cone_sum = 0; bed_sum = b; paired_cone = 0; paired_bed = 0 }
feeds_of None None = record { both = 0; cone = 0; bed = 0; neither = 1; cone_sum = 0; bed_sum = 0; paired_cone = 0; paired_bed = 0 }

-- a faulty one adds nothing: where there is one the report is zeros
abbrev pub feeds_in : Result Feed Refusal → Feeds
feeds_in (Ok f) = feeds_of f.cone f.bed
feeds_in (Err r) = no_feeds

-- ---- some commits

abbrev pub plus : Feeds → Feeds → Feeds
plus a b = record {
  both = a.both + b.both;
  cone = a.cone + b.cone;
  bed = a.bed + b.bed;
  neither = a.neither + b.neither;
  cone_sum = a.cone_sum + b.cone_sum;
  bed_sum = a.bed_sum + b.bed_sum;
  paired_cone = a.paired_cone + b.paired_cone;
  paired_bed = a.paired_bed + b.paired_bed;
}

-- the numbers of a list of commits whose readings f gives
unfoldable pub feeds_over : (Id → Result Feed Refusal) → List Id → Feeds
feeds_over f [] = no_feeds
feeds_over f (x ∷ xs) = plus (feeds_in (f x)) (feeds_over f xs)

-- ---- how great they are

-- the numbers of n commits or fewer
pub record FewFeeds (n : ℕ) (f : Feeds) : Type 0 where
  pub both : f.both ≤ n
  pub cone : f.cone ≤ n
  pub bed : f.bed ≤ n
  pub neither : f.neither ≤ n
  pub cone-sum : f.cone_sum ≤ n * most_millimetres
  pub bed-sum : f.bed_sum ≤ n * most_millimetres
  pub paired-cone : f.paired_cone ≤ n * most_millimetres
  pub paired-bed : f.paired_bed ≤ n * most_millimetres

-- "at most 1,000,000,000"
abbrev pub Small : Option ℕ → Type 0
Small r = (n : ℕ) → r ≡ Some n → n ≤ most_millimetres

abbrev pub SmallIn : Result Feed Refusal → Type 0
SmallIn q = (f : Feed) → q ≡ Ok f → Small f.cone × Small f.bed

-- two of these add up in 64 bits
abbrev pub LowFeeds : Feeds → Type 0
LowFeeds f = FewFeeds 4294967296 f
