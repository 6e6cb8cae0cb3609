-- The order of a queue by its shape alone, and the model's steps by it: a commit waits, a commit goes back. Assumes nothing.
use Rattle.std.specs.Prelude.{ℕ, suc, Bool, true, false, cond, ◌&&◌, List, ◌∷◌, ℤ}
use Rattle.hash.specs.Bytes.{Id, width_of}
use Rattle.hash.specs.declared.Kind.{Kind}
use Rattle.commitgraph.specs.Graph.{layout_of}
use Rattle.revwalk.specs.Order.{sooner}
use Rattle.revwalk.specs.declared.queue.Queue.{Queue}
use Rattle.walk.specs.declared.Settings.{Settings}
use Rattle.walk.specs.Settings.{by_time, newest_first}
use Rattle.walk.specs.State.{State, queued}
use Rattle.walk.specs.Opening.{Input, P}
use Rattle.state.specs.declared.Fixed.{Fixed}
use Rattle.state.specs.declared.Record.{Record}
use Rattle.state.specs.declared.Waiting.{Waiting}
use Rattle.state.specs.Reads.{Shape}

-- whether a commit queued with a seconds leaves the queue before one that already waits with b: in a queue without times never
unfoldable pub before_of : Shape → ℤ → ℤ → Bool
before_of sh a b = cond sh.timed (sooner sh.newest a b) false

-- ---- the shape of a walk with given settings

-- what an opening finds in the graph file g, and the kind of its ids
abbrev pub fixed_of : Kind → List ℕ → Fixed
fixed_of kind g = record { layout = layout_of (width_of kind) g; kind = kind }

abbrev pub shape_for : Settings → ℕ → Fixed → Shape
shape_for s n f = record { timed = by_time s; newest = by_time s && newest_first s.sorting; cap = n; fixed = f }

-- the shape that an opening with the input i fixes
abbrev pub shape_of : Input → Shape
shape_of i = shape_for i.settings (P i) (fixed_of i.settings.kind i.graph)

-- ---- the steps of a state

-- "it … waits": x, seen already, is admitted with t seconds
unfoldable pub joins : (ℤ → ℤ → Bool) → State → Id → ℤ → State
joins before st x t = record {
  queue = queued before (x, t) st.queue;
  seen = st.seen;
  frontier = st.frontier;
  painted = st.painted;
  kept = st.kept;
  admitted = suc st.admitted;
  struck = st.struck;
}

-- "the commit goes back (front, or queued last among equals)"
unfoldable pub back_to : Shape → Id × ℤ → List (Id × ℤ) → List (Id × ℤ)
back_to sh x l = cond sh.timed (queued (before_of sh) x l) (x ∷ l)

-- ---- records

-- the same record with another queue, graph kept or dropped, and number of commits admitted
abbrev pub requeued : Record → Queue → Bool → ℕ → Record
requeued r q k n = record {
  live = r.live;
  painted = r.painted;
  failed = r.failed;
  kept = k;
  fixed = r.fixed;
  queue = q;
  admitted = n;
  struck = r.struck;
}

-- the same record with these that wait
abbrev pub waiting_in : Record → Waiting → Record
waiting_in r w = requeued r w.queue r.kept w.admitted

-- the record of a walk that has just been opened, with no tip taken
abbrev pub fresh_record : Bool → Bool → ℕ → Fixed → Record
fresh_record timed newest n f = record {
  live = true;
  painted = false;
  failed = false;
  kept = true;
  fixed = f;
  queue = record { timed = timed; newest = newest; cap = n; head = 0; count = 0; next = 0 };
  admitted = 0;
  struck = 0;
}
