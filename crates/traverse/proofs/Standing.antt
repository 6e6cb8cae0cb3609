-- Where untouched memory stands after an accepted opening and k calls: the files are good, every buffer has its size, the ids of the state lie in the
-- universe of the input, which has no more ids than there are places, and the numbers are small, for P places suffice after every call. Assumes nothing.
use Rattle.std.specs.Prelude.{None}
use mathlib.Core.Path.{◌≡◌, refl, sym, ◌∙◌, ap, subst}
use mathlib.Core.Logic.{⊎_elim}
use Prim.Native.Nat.{ℕ, suc, ◌+◌, ◌*◌, ◌/◌, ◌≤◌}
use mathlib.Core.Bool.{Bool, true, false, ◌||◌}
use mathlib.Core.List.{[]}
use native.Mathlib.Omega.{arith}
use lib.ListN.{length, replicate, length-replicate}
use Rattle.hash.proofs.Tests.{by_cases, clash, or_left, or_right}
use Rattle.odb.specs.Store.{store_is_ok}
use Rattle.commitgraph.specs.Graph.{graph_ok, graph_count}
use Rattle.walk.specs.declared.Sorting.TheVariants.{BreadthFirst}
use Rattle.walk.specs.declared.Parents.TheVariants.{All}
use Rattle.walk.specs.Lookup.{world_of}
use Rattle.walk.specs.State.{Walk, State, is_empty}
use Rattle.walk.specs.Opening.{Input, Lengths, P, walk_of, refusal, room_for, opened, open_walk, parents_room, width_in}
use Rattle.object.specs.Header.{parent_size}
use Rattle.walk.specs.Next.{Answer, Step, take_next, first_call, next}
use Rattle.walk.specs.Calls.{state_of, state_after, answer_on, answer_at_call}
use Rattle.walk.specs.AnyInput.{AllFit}
use Rattle.walk.specs.Given.{given, parents_given}
use Rattle.walk.specs.Universe.{universe}
use Rattle.walk.proofs.Universe.{universe_length, all_named, row_in, body_in}
use Rattle.walk.proofs.Room.{all_fit}
use Rattle.opening.specs.Checks.{checked_by}
use Rattle.opening.proofs.Input.{passes, places-few, Room, room}
use Rattle.opening.proofs.Opened.{opens}
use Rattle.state.specs.declared.Record.{Record}
use Rattle.state.specs.Reads.{Shape, Reads, Universe}
use Rattle.state.specs.Shapes.{shape_of}
use Rattle.links.specs.Link.{GoesBy}
use Rattle.visit.specs.Taking.{Rests, InRows, InStore}
use Rattle.traverse.specs.declared.Out.{Out}
use Rattle.traverse.specs.Contract.{Lent, lengths_of}
use Rattle.traverse.specs.Next.{Whole}
use Rattle.hash.specs.declared.Kind.{Kind}
use Rattle.hash.proofs.Widths.{by_kind}
use Rattle.hash.specs.Bytes.{width_of}

-- ---- of every input

pub goes_by : (i : Input) → GoesBy (walk_of i) (shape_of i) i.excluded i.settings
unfolding walk_of
goes_by i = record { same-settings = refl; same-excluded = refl; shape = refl; same_kind = refl }

pub world_is : (i : Input) → (walk_of i).world ≡ world_of (width_in i) i.store i.graph
unfolding walk_of
world_is i = refl

pub in_rows : (i : Input) → InRows (walk_of i) (universe i)
in_rows i = record { inside = row_in i }

pub in_store_lem : (i : Input) → InStore (walk_of i) (universe i)
in_store_lem i = record { inside = body_in i }

-- ---- the state after k calls

-- the record r and the memory m read so after k calls, and the opening left the state st
pub record Stands (i : Input) (m : Lent) (r : Record) (k : ℕ) (st : State) : Type 0 where
  pub accepted : open_walk i true ≡ opened st
  pub has_room : room_for i (lengths_of m) ≡ true
  pub passed : refusal i ≡ None
  pub sizes : Room (width_in i) (P i) (lengths_of m)
  pub reads : Reads r m.memory (shape_of i) (state_after i k)

pub stands : (i : Input) (m : Lent) (r : Record) (k : ℕ) (st : State) → open_walk i (room_for i (lengths_of m)) ≡ opened st → Reads r m.memory (shape_of i) (state_after i k) → Stands i m r k st
stands i m r k st e g =
    let o = opens i (room_for i (lengths_of m)) (sym (ap checked_by e)) in
    record {
      accepted = ap (open_walk i) (sym o.has_room) ∙ e;
      has_room = o.has_room;
      passed = o.accepted;
      sizes = room i (lengths_of m) o.has_room;
      reads = g;
    }

module _ {i : Input} {m : Lent} {r : Record} {k : ℕ} {st : State} (s : Stands i m r k st) where
  pub good-store : store_is_ok (width_in i) i.store ≡ true
  good-store = (passes i s.passed).store-good

  pub good-graph : (is_empty i.graph || graph_ok (width_in i) i.graph) ≡ true
  good-graph = ⊎_elim (or_left (is_empty i.graph) (graph_ok (width_in i) i.graph)) (or_right (is_empty i.graph) (graph_ok (width_in i) i.graph)) (passes i s.passed).graph-good

  pub room-parents : parents_room (width_in i) ≤ length m.parents
  unfolding lengths_of
  room-parents = s.sizes.parents-room

  pub room-levels : P i ≤ length m.levels
  unfolding lengths_of
  room-levels = s.sizes.levels-room

  pub few-admitted : (state_after i k).admitted ≤ P i
  unfolding AllFit
  few-admitted = (all_fit i st s.accepted k).admitted-fits

  pub inside : Universe (shape_of i) (state_after i k) (universe i)
  inside =
      let n = all_named i st s.accepted k in
      record { few = universe_length i s.passed; has-seen = n.seen_in; has-frontier = n.front_in }

  pub rests : Rests (shape_of i) r m.memory (state_after i k) (universe i)
  rests = record {
    reads = s.reads;
    inside = inside;
    slots = omega (arith, places-few i s.passed);
    numbers = omega (arith, places-few i s.passed, few-admitted);
  }

  -- the record's own test
  pub stands-whole : {l : Lengths} {a : Bool} → Whole i.settings.kind r l a → l ≡ lengths_of m → a ≡ true
  stands-whole w e = w.alive s.reads.alive i refl s.reads.cap ∙ ap (room_for i) e ∙ s.has_room

  -- what a call gives is the walk's next step
  pub says-step : (p : Step) → next (walk_of i) (state_after i k) ≡ p → (o : Out) (m' : Lent) → o.answer ≡ given p.answer → m'.parents ≡ parents_given p.answer m.parents
      → Reads o.record m'.memory (shape_of i) p.state
      → (o.answer ≡ given (answer_at_call i k)) × (m'.parents ≡ parents_given (answer_at_call i k) m.parents) × Reads o.record m'.memory (shape_of i) (state_after i (suc k))
  unfolding state_after answer_on answer_at_call
  says-step p e o m' a d g =
      let q : answer_at_call i k ≡ p.answer = ap (answer_on (walk_of i) (state_after i k)) s.accepted ∙ ap (λ (z : Step). z.answer) e in (
        a ∙ ap given (sym q),
        d ∙ ap (λ (z : Answer). parents_given z m.parents) (sym q),
        subst (λ (z : Step). Reads o.record m'.memory (shape_of i) z.state) (sym e) g,
      )

-- ---- the walk's own cases

pub next-painted : (v : Walk) (st : State) → st.painted ≡ true → next v st ≡ take_next v st
unfolding next
next-painted v st e = rw e

pub next-first : (v : Walk) (st : State) → st.painted ≡ false → next v st ≡ first_call v st
unfolding next
next-first v st e = rw e

pub first-state : (i : Input) (st : State) → open_walk i true ≡ opened st → state_after i 0 ≡ st
unfolding state_after state_of
first-state i st e = ap state_of e

-- ---- a record that is whole

-- an input with so many places
unfoldable placed : Kind → ℕ → Input
placed kind n = record { store = []; graph = []; tips = replicate (width_of kind * n) 0; hidden = []; excluded = []; settings = record { sorting = BreadthFirst; parents = All; kind = kind } }

placed-P : (kind : Kind) (n : ℕ) → P (placed kind n) ≡ n
unfolding P placed graph_count
placed-P kind n =
    by_kind (λ w. length (replicate {A = ℕ} (w * n) 0) / w + length {A = ℕ} [] / w + length {A = ℕ} [] / parent_size w + 0 ≡ n)
    (let z : ℕ = 0 in omega (arith, length-replicate (20 * n) z)) (let z : ℕ = 0 in omega (arith, length-replicate (32 * n) z)) kind

placed-kind : (kind : Kind) (n : ℕ) → (placed kind n).settings.kind ≡ kind
unfolding placed
placed-kind kind n = refl

at-placed : (kind : Kind) (n : ℕ) {b : ℕ} → 256 * width_of (placed kind n).settings.kind ≤ b → 256 * width_of kind ≤ b
unfolding placed
at-placed kind n h = h

pub whole_room : {kind : Kind} {r : Record} {l : Lengths} {a : Bool} → Whole kind r l a → a ≡ true → (r.live ≡ true) × (256 * width_of kind ≤ l.parents)
whole_room {kind} {r} {l} w e =
    by_cases r.live
    (λ h. (h, at-placed kind r.queue.cap (room (placed kind r.queue.cap) l (sym (w.alive h (placed kind r.queue.cap) (placed-kind kind r.queue.cap) (sym (placed-P kind r.queue.cap))) ∙ e)).parents-room))
    (λ h. clash e (w.shut h))
