-- What a whole walk is called for, and what its answers come to, one after another. Assumes nothing.
use Rattle.std.specs.Prelude.{ℕ, ◌+◌, ◌*◌, ◌≤◌, ◌≡◌, Bool, true, false, cond, List, [], ◌∷◌, Err, Ok, Option, Result}
use Rattle.walk.specs.declared.Refusal.{Refusal}
use Rattle.hash.specs.Bytes.{Id, set_down}
use Rattle.object.specs.Ids.{id_in}
use Rattle.odb.specs.Store.{store_is_ok}
use Rattle.calendar.specs.Terms.{good_terms}
use Rattle.feed.specs.Feed.{feed_of}
use Rattle.walk.specs.declared.Outcome.{Outcome}
use Rattle.walk.specs.declared.Outcome.TheVariants.{Commit, End, Refused}
use Rattle.walk.specs.Opening.{list_ids}
use Rattle.walk.specs.Next.{Kind, Answer}
use Rattle.walk.specs.Given.{outcome_of, id_of_kind, calls_after}
use Rattle.tally.specs.declared.feeds.Feeds.{Feeds}
use Rattle.tally.specs.declared.Task.{Task}
use Rattle.feed.specs.declared.Feed.{Feed}
use Rattle.tally.specs.declared.Task.TheVariants.{Ids, Feed as Feeding, Terms}
use Rattle.tally.specs.declared.Tally.{Tally}
use Rattle.tally.specs.Terms.{term_of, counts_at, outside_at, FewCounts}
use Rattle.tally.specs.Feeds.{no_reading, feed_for, feeds_of, no_feeds, plus, FewFeeds}

-- ---- counted from one call to the next, by the outcome of a call

-- the commits handed out
abbrev pub commits_after : ℕ → Outcome → ℕ
commits_after n Commit = n + 1
commits_after n End = n
commits_after n (Refused r) = n

-- the calls refused
abbrev pub refused_after : ℕ → Outcome → ℕ
refused_after n Commit = n
refused_after n End = n
refused_after n (Refused r) = n + 1

-- a first refusal stays
abbrev pub reason_or : Outcome → Outcome → Outcome
reason_or Commit o = o
reason_or End o = o
reason_or (Refused r) o = Refused r

-- the first refusal, or End
abbrev pub reason_after : Outcome → Outcome → Outcome
reason_after first Commit = first
reason_after first End = first
reason_after first (Refused r) = reason_or first (Refused r)

-- after a commit its id, w bytes wide, stands behind the n ids before it, where it fits
abbrev pub ids_after : ℕ → List ℕ → ℕ → Outcome → Id → List ℕ
ids_after w b n Commit x = set_down b (w * n) (id_in w x)
ids_after w b n End x = b
ids_after w b n (Refused r) x = b

abbrev pub no_tally : Tally
no_tally = record { commits = 0; refused = 0; reason = End; feeds = no_feeds; outside = 0 }

-- the same with other readings
abbrev pub with_feeds : Tally → Feeds → Tally
with_feeds t f = record { commits = t.commits; refused = t.refused; reason = t.reason; feeds = f; outside = t.outside }

-- a call more, with these readings
abbrev pub counted : Tally → Outcome → Feeds → Tally
counted t o f = record {
  commits = commits_after t.commits o;
  refused = refused_after t.refused o;
  reason = reason_after t.reason o;
  feeds = f;
  outside = t.outside;
}

-- ---- the steps

-- the readings of a body, where one was found
abbrev pub read_in : Bool → List ℕ → Result Feed Refusal
read_in true b = feed_of b
read_in false b = no_reading

-- a faulty commit counts as a refusal
abbrev pub fed_by : Tally → Outcome → Result Feed Refusal → Tally
fed_by t Commit (Ok f) = counted t Commit (plus t.feeds (feeds_of f.cone f.bed))
fed_by t Commit (Err r) = counted t (Refused r) t.feeds
fed_by t End q = t
fed_by t (Refused r) q = counted t (Refused r) t.feeds

-- a commit more, in its term or outside all
abbrev pub placed : Tally → Option ℕ → Tally
placed t p = record { commits = t.commits + 1; refused = t.refused; reason = t.reason; feeds = t.feeds; outside = outside_at t.outside p }

abbrev pub placed_by : Tally → Outcome → Option ℕ → Tally
placed_by t Commit p = placed t p
placed_by t End p = t
placed_by t (Refused r) p = counted t (Refused r) t.feeds

abbrev pub counts_after : List ℕ → Outcome → Option ℕ → List ℕ
counts_after c Commit p = counts_at c p
counts_after c End p = c
counts_after c (Refused r) p = c

-- the tally after an answer that came out so and named by value the id x, w bytes wide; s is the store, and the readings of the embargoed ids are
-- withheld
abbrev pub step_of : ℕ → Task → List ℕ → List ℕ → List ℕ → Tally → Outcome → Id → Tally
step_of w Ids embargoed terms s t o x = counted t o t.feeds
step_of w Feeding embargoed terms s t o x = fed_by t o (feed_for w (list_ids w embargoed) s (id_in w x))
step_of w Terms embargoed terms s t o x = placed_by t o (term_of w terms s (id_in w x))

-- and the caller's buffer of ids
abbrev pub ids_by : ℕ → Task → List ℕ → ℕ → Outcome → Id → List ℕ
ids_by w Ids b n o x = ids_after w b n o x
ids_by w Feeding b n o x = b
ids_by w Terms b n o x = b

-- and of counts
abbrev pub counts_by : ℕ → Task → List ℕ → List ℕ → List ℕ → Outcome → Id → List ℕ
counts_by w Ids terms s c o x = c
counts_by w Feeding terms s c o x = c
counts_by w Terms terms s c o x = counts_after c o (term_of w terms s (id_in w x))

abbrev pub is_refusal : Outcome → Bool
is_refusal Commit = false
is_refusal End = false
is_refusal (Refused r) = true

-- a report ends at its first refusal
abbrev pub halted : Task → Tally → Bool
halted Ids t = false
halted Feeding t = is_refusal t.reason
halted Terms t = is_refusal t.reason

-- how many of some calls may follow
abbrev pub calls_left : Task → Tally → ℕ → Outcome → ℕ
calls_left task t n o = cond (halted task t) 0 (calls_after n o)

-- ---- all answers

-- a tally and the caller's buffers of ids and counts
pub record Held : Type 0 where
  pub tally : Tally
  pub ids : List ℕ
  pub counts : List ℕ

abbrev pub holding : Tally → List ℕ → List ℕ → Held
holding t b c = record { tally = t; ids = b; counts = c }

abbrev pub stepped : ℕ → Task → List ℕ → List ℕ → List ℕ → Held → Kind → Held
stepped w task embargoed terms s h k =
    holding (step_of w task embargoed terms s h.tally (outcome_of k) (id_of_kind k)) (ids_by w task h.ids h.tally.commits (outcome_of k) (id_of_kind k))
    (counts_by w task terms s h.counts (outcome_of k) (id_of_kind k))

-- the step folded over a list of answers
unfoldable pub folded : ℕ → Task → List ℕ → List ℕ → List ℕ → Held → List Answer → Held
folded w task embargoed terms s h [] = h
folded w task embargoed terms s h (a ∷ rest) = folded w task embargoed terms s (stepped w task embargoed terms s h a.kind) rest

-- ---- how great the numbers are

-- of n calls or fewer
pub record Few (n : ℕ) (t : Tally) : Type 0 where
  pub commits : t.commits ≤ n
  pub refused : t.refused ≤ n
  pub feeds : FewFeeds n t.feeds
  pub outside : t.outside ≤ n

-- so few that one more fits its number's width
abbrev pub Low : Tally → Type 0
Low t = Few 4294967296 t

-- what a step is told over: a store whose layout is whole, a good list of terms, and numbers that one more fits
pub record Ready (w : ℕ) (terms s : List ℕ) (t : Tally) (c : List ℕ) : Type 0 where
  pub store-good : store_is_ok w s ≡ true
  pub terms-good : good_terms terms ≡ true
  pub low : Low t
  pub few : FewCounts 4294967296 c
