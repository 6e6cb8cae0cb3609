-- What a whole walk promises: every commit, in order, in the caller's buffer. Assumes nothing.
use Rattle.std.specs.Prelude.{ℕ, ◌+◌, ◌/◌, ◌≡◌, List, length, take, Err, Ok, Result}
use Rattle.hash.specs.Bytes.{set_down}
use Rattle.walk.specs.declared.Refusal.{Refusal}
use Rattle.walk.specs.declared.Outcome.TheVariants.{End}
use Rattle.walk.specs.State.{State}
use Rattle.walk.specs.Opening.{Input, width_in, P, room_for, open_walk, closed, opened}
use Rattle.walk.specs.Calls.{state_after}
use Rattle.walk.specs.Given.{joined}
use Rattle.state.specs.declared.Record.{Record}
use Rattle.state.specs.Reads.{Reads, closed_record}
use Rattle.state.specs.Shapes.{shape_of}
use Rattle.traverse.specs.Contract.{Lent, lengths_of}
use Rattle.lister.specs.declared.Listing.{Listing}
use Rattle.driver.specs.declared.Driven.{Driven}
use Rattle.driver.specs.Walked.{all_answers, whole_list, parents_left}
use Rattle.lister.specs.Walked.{refusals, first_refusal}

-- ---- list

-- a listing with nothing counted
abbrev pub listing : Result (Unit {0}) Refusal → Record → Listing
listing outcome r = record { outcome = outcome; commits = 0; refused = 0; reason = End; «record» = r }

-- of an accepted opening, with the caller's buffer ids before and ids' after, and the lent memory m before and m' after
pub record Whole (i : Input) (m : Lent) (ids : List ℕ) (l : Listing) (m' : Lent) (ids' : List ℕ) : Type 0 where
  pub accepted : l.outcome ≡ (Ok tt)
  -- how many commits there are in all, also those that ids has no room for
  pub commits : l.commits ≡ length (whole_list i)
  -- how many calls were refused, and the first refusal
  pub refused : l.refused ≡ refusals (all_answers i)
  pub reason : l.reason ≡ first_refusal (all_answers i)
  -- the list from the start of ids, each as wide as the kind says, as far as whole ids fit; every other byte is as it was
  pub set_down : ids' ≡ set_down ids 0 (joined (take (length ids / width_in i) (whole_list i)))
  -- what the calls leave in parents, and working memory that reads as the walk's last state
  pub parents : m'.parents ≡ parents_left (all_answers i) m.parents
  pub reads : Reads l.record m'.memory (shape_of i) (state_after i (P i + 2))

-- list: refused as the opening is, with zeros and a closed record, and no lent byte altered; or the whole walk
pub record ListSays (i : Input) (m : Lent) (ids : List ℕ) (l : Listing) (m' : Lent) (ids' : List ℕ) : Type 0 where
  pub refused_open : (r : Refusal) → open_walk i (room_for i (lengths_of m)) ≡ closed r → (l ≡ listing (Err r) closed_record) × (m' ≡ m) × (ids' ≡ ids)
  pub accepted_open : (st : State) → open_walk i (room_for i (lengths_of m)) ≡ opened st → Whole i m ids l m' ids'
  pub same-lengths : lengths_of m' ≡ lengths_of m

-- ---- its part

-- what the driver came to, as a listing
abbrev pub listing_of : Driven → Listing
listing_of d = record {
  outcome = d.outcome;
  commits = d.tally.commits;
  refused = d.tally.refused;
  reason = d.tally.reason;
  «record» = d.record;
}
