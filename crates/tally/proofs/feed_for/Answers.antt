-- `feed_for` meets its contract: by whether the id is embargoed. Assumes nothing.
use mathlib.Core.Path.{sym, ◌∙◌, subst}
use mathlib.Core.Bool.{false}
use mathlib.Core.List.{[]}
use Rattle.hash.specs.Bytes.{width_of}
use Rattle.walk.specs.Opening.{list_ids}
use Rattle.tally.specs.Feeds.{SmallIn}
use Rattle.tally.proofs.Few.{in_small}
use Rattle.tally.proofs.Steps.{held_back, not-held}
use borrow.Author.Rules.{rules}
use Rattle.reading.proofs.is_among.Reads as is-among-reads
use Rattle.tally.proofs.feed_at.Reads as feed-at-reads
use Rattle.tally.proofs.no_reading.Reads as no-reading-reads
use Rattle.tally.proofs.feed_for.Goals as goal

pub returns-then-is_among : goal.returns-then-is_among
returns-then-is_among c = let x = c.args in (λ ok. c.no_reading.ensures ∙ held_back (width_of x.kind) (list_ids (width_of x.kind) x.embargoed.now) x.store.now x.id.now (sym c.is_among.ensures ∙ c.if-is_among.true), subst SmallIn (sym c.no_reading.ensures) (in_small false []))

pub returns-else-is_among : goal.returns-else-is_among
returns-else-is_among c = let x = c.args in (λ ok. c.feed_at.ensures.0 ok ∙ not-held (width_of x.kind) (list_ids (width_of x.kind) x.embargoed.now) x.store.now x.id.now (sym c.is_among.ensures ∙ c.if-is_among.false), c.feed_at.ensures.1)
