-- What taking the next commit promises: the walk's own answer in all its fields, the ids at the start of the buffer parents, and the walk's own
-- state after it; on any bytes, an answer of document 01. Assumes nothing.
use Rattle.std.specs.Prelude.{ℕ, ◌+◌, ◌≤◌, ◌<◌, ◌≡◌, Bool, true, cond, ◌||◌, length, get_or, ℤ, None, Option, Some}
use Rattle.commitgraph.specs.declared.Level.{Level}
use mathlib.Core.List.{List, map, Memᴰ}
use Rattle.hash.specs.Bytes.{Id, width_of}
use Rattle.date.specs.declared.Seconds.{Seconds}
use Rattle.object.specs.Header.{Header}
use Rattle.object.specs.Ids.{padded}
use Rattle.odb.specs.Store.{store_is_ok}
use Rattle.commitgraph.specs.Graph.{graph_ok, layout_of}
use Rattle.commitgraph.specs.declared.Layout.{Layout}
use Rattle.walk.specs.Opening.{parents_room}
use Rattle.walk.specs.declared.Settings.{Settings}
use Rattle.walk.specs.declared.Outcome.{Outcome}
use Rattle.walk.specs.declared.Outcome.TheVariants.{Commit, Refused}
use Rattle.walk.specs.declared.Refusal.TheVariants.{CommitUnreadable, TooManyParents}
use Rattle.walk.specs.Lookup.{row, row_at, world_of}
use Rattle.walk.specs.State.{Walk, State, is_empty}
use Rattle.walk.specs.Next.{Step, from_body, take_store, take_row, take_next}
use Rattle.walk.specs.Given.{no_id, given, parents_given}
use Rattle.reading.specs.declared.body.BodyEnd.{BodyEnd}
use Rattle.reading.specs.declared.body.BodyEnd.TheVariants.{Whole, Unreadable, Crowded}
use Rattle.state.specs.declared.Record.{Record}
use Rattle.state.specs.declared.Next.{Next}
use Rattle.state.specs.Reads.{Memory, Shape, Reads, Universe}
use Rattle.state.specs.Shapes.{fixed_of, waiting_in}
use Rattle.state.specs.Steps.{Taken as OutOfQueue}
use Rattle.bodyvisit.specs.declared.body.BodyVisited.{BodyVisited}
use Rattle.visit.specs.declared.next.Taken.{Taken}
use Rattle.links.specs.Link.{GoesBy, Ready}
use Rattle.visit.specs.Plain.{Plain}

-- an answer with the running numbers of the record r; x is an id by value
abbrev pub gave : Outcome → Id → ℕ → Option Level → Option Seconds → Option ℤ → Record → Taken
gave o x n l t z r = record {
  answer = record {
    outcome = o;
    info = record { id = x; parents = n; generation = l; time = t; zone = z };
    admitted = r.admitted;
    struck = r.struck;
    waiting = r.queue.count;
  };
  after = r;
}

abbrev pub time_given : Bool → Seconds → Option Seconds
time_given b s = cond b (Some s) None

abbrev pub end_given : BodyEnd → Id → ℕ → Option Seconds → Option ℤ → Record → Taken
end_given Whole x n t z r = gave Commit (padded x) n None t z r
end_given Unreadable x n t z r = gave (Refused CommitUnreadable) no_id n None None None r
end_given Crowded x n t z r = gave (Refused TooManyParents) no_id n None None None r

-- the answer after the parents of a body with the header h, some of whose parents are seen, with the record r but for those that wait then: the zone
-- of a commit that is handed out is the header's
pub record EndsBody (r : Record) (seen : BodyVisited) (h : Header) (x : Id) (t : Option Seconds) (a : Taken) : Type 0 where
  pub zone : Option ℤ
  pub right : h.tree ≡ true → seen.parents ≤ length h.ids → seen.ends ≡ Whole → zone ≡ h.zone
  pub is : a ≡ end_given seen.ends x seen.parents t zone (waiting_in r seen.after)

-- the record r and the memory m read as the state st, whose ids lie in u; 256 commits more may be admitted
pub record Rests (sh : Shape) (r : Record) (m : Memory) (st : State) (u : List Id) : Type 0 where
  pub reads : Reads r m sh st
  pub inside : Universe sh st u
  pub slots : sh.cap ≤ 4294967296
  pub numbers : st.admitted + 256 + 2 < 4294967296

-- the answer a, the buffer b' and the memory m' are those of the step s
pub record Gives (sh : Shape) (m m' : Memory) (b b' : List ℕ) (a : Taken) (s : Step) : Type 0 where
  pub answer : a.answer ≡ given s.answer
  pub down : b' ≡ parents_given s.answer b
  pub reads : Reads a.after m' sh s.state
  pub line_kept : (k : ℕ) → sh.cap + sh.cap ≤ k → get_or m'.line k 0 ≡ get_or m.line k 0

-- the parents that the two files name lie in u
pub record InRows (v : Walk) (u : List Id) : Type 0 where
  pub inside : (x p : Id) (ps : List (Id × ℤ)) (l : ℕ) (s : ℤ) → v.world.graph x ≡ row ps l s → Memᴰ p (map (λ q. q.0) ps) → Memᴰ p u

pub record InStore (v : Walk) (u : List Id) : Type 0 where
  pub inside : (x p : Id) (h : Header) → v.world.store x ≡ Some h → Memᴰ p h.ids → Memᴰ p u

-- the commit x, queued with t seconds and out of the queue already, from its body with the header h, where the store has that under x
pub record TakesBody (excluded : List ℕ) (settings : Settings) (store : List ℕ) (h : Header) (r : Record) (x : Id) (t : ℤ) (m m' : Memory) (b b' : List ℕ) (a : Taken) : Type 0 where
  pub right : store_is_ok (width_of settings.kind) store ≡ true → (g : List ℕ) (v : Walk) (sh : Shape) (st : State) (u : List Id) (t' : ℤ) → GoesBy v sh excluded settings → v.world ≡ world_of (width_of settings.kind) store g
      → v.world.store x ≡ Some h → Ready sh r m st u 256 → InStore v u → (sh.timed ≡ true → t ≡ t') → parents_room (width_of settings.kind) ≤ length b → Gives sh m m' b b' a (from_body v st x t' (Some h))
  pub plain : Plain (width_of settings.kind) b b' a.answer

-- the first of the queue, from the store alone
pub record TakesStored (excluded : List ℕ) (settings : Settings) (store : List ℕ) (r : Record) (m m' : Memory) (b b' : List ℕ) (a : Taken) : Type 0 where
  pub right : store_is_ok (width_of settings.kind) store ≡ true → (g : List ℕ) (v : Walk) (sh : Shape) (st : State) (u : List Id) → GoesBy v sh excluded settings → v.world ≡ world_of (width_of settings.kind) store g
      → Rests sh r m st u → InStore v u → parents_room (width_of settings.kind) ≤ length b → Gives sh m m' b b' a (take_store v st st.queue)
  pub plain : Plain (width_of settings.kind) b b' a.answer

-- n was popped from the record r: the first of the state's queue, which was y ∷ l; m is the memory since
pub record Popped (sh : Shape) (r : Record) (m : Memory) (st : State) (u : List Id) (y : Id × ℤ) (l : List (Id × ℤ)) (n : Next) : Type 0 where
  pub taken : OutOfQueue r m.names m.marks m.times m.line sh st y.0 y.1 l n
  pub inside : Universe sh st u
  pub slots : sh.cap ≤ 4294967296
  pub numbers : st.admitted + 256 + 2 < 4294967296

-- the popped commit from its row at position p, or, where that is corrupt, the first of the queue from the store alone
pub record TakesCached (excluded : List ℕ) (settings : Settings) (graph : List ℕ) (l : Layout) (p : ℕ) (store : List ℕ) (r : Record) (n : Next) (m m' : Memory) (b b' : List ℕ) (a : Taken) : Type 0 where
  pub right : store_is_ok (width_of settings.kind) store ≡ true → graph_ok (width_of settings.kind) graph ≡ true → l ≡ layout_of (width_of settings.kind) graph → (v : Walk) (sh : Shape) (st : State) (u : List Id) (y : Id × ℤ) (ys : List (Id × ℤ))
      → GoesBy v sh excluded settings → v.world ≡ world_of (width_of settings.kind) store graph → Popped sh r m st u y ys n → st.kept ≡ true → v.world.graph y.0 ≡ row_at (width_of settings.kind) graph p → InRows v u → InStore v u → parents_room (width_of settings.kind) ≤ length b
      → Gives sh m m' b b' a (take_row v st y ys (row_at (width_of settings.kind) graph p))
  pub plain : Plain (width_of settings.kind) b b' a.answer

-- the next commit, where the opening found what it fixed in this graph file
pub record TakesNext (excluded : List ℕ) (settings : Settings) (graph store : List ℕ) (r : Record) (m m' : Memory) (b b' : List ℕ) (a : Taken) : Type 0 where
  pub right : store_is_ok (width_of settings.kind) store ≡ true → (is_empty graph || graph_ok (width_of settings.kind) graph) ≡ true → (v : Walk) (sh : Shape) (st : State) (u : List Id) → GoesBy v sh excluded settings → sh.fixed ≡ fixed_of settings.kind graph
      → v.world ≡ world_of (width_of settings.kind) store graph → Rests sh r m st u → InRows v u → InStore v u → parents_room (width_of settings.kind) ≤ length b → Gives sh m m' b b' a (take_next v st)
