-- At the first call painting may begin, and what ends it may follow: the graph is used, so painting reads the walk's own files; P places are
-- enough for both lists and for every parent; a taken slot is a seen one; and the numbers are small. Assumes nothing.
use Rattle.std.specs.Prelude.{None}
use mathlib.Core.Path.{◌≡◌, refl, sym, ap, ◌∙◌, subst}
use mathlib.Core.Logic.{⊎_elim}
use Prim.Native.Nat.{ℕ, ◌+◌, ◌≤◌, ◌<◌}
use mathlib.Core.Bool.{Bool, true, false}
use mathlib.Core.List.{List, [], ◌∷◌, ◌++◌, map}
use native.Mathlib.Omega.{arith}
use lib.ListN.{length, length-append, get_or}
use lib.IntN.{ℤ}
use Rattle.hash.specs.Bytes.{Id}
use Rattle.hash.proofs.Tests.{or_left, or_right}
use Rattle.hash.proofs.Widths.{width-most}
use Rattle.hashtable.specs.Marks.{seen, frontier}
use Rattle.hashtable.specs.Table.{id_of, live_at, Table, mark_for}
use Rattle.hashtable.proofs.TableView.{look}
use Rattle.commitgraph.specs.Graph.{graph_ok}
use Rattle.walk.specs.Settings.{by_time}
use Rattle.walk.specs.Lookup.{World}
use Rattle.walk.specs.State.{State, ids, is_empty}
use Rattle.walk.specs.Opening.{Input, P, walk_of, list_ids, refusal, width_in}
use Rattle.walk.proofs.Tips.{open_accepted}
use Rattle.walk.proofs.Whole.{open_fresh, accepted}
use Rattle.walk.proofs.Enough.{kids_named}
use Rattle.walk.proofs.Outside.{length_ids}
use Rattle.walk.proofs.Room.{open_roomy, roomy-fits}
use Rattle.walk.specs.Universe.{names, universe}
use Rattle.walk.proofs.Universe.{universe_length, open_named, hidden_in, kid_in}
use Rattle.reading.specs.Files.{cache_of, world_under}
use Rattle.reading.proofs.World.{good-cache, kept-world}
use Rattle.opening.proofs.Input.{places-few}
use Rattle.state.specs.declared.Record.{Record}
use Rattle.state.specs.Reads.{Memory, entry_of, waiting}
use Rattle.state.specs.Shapes.{shape_of}
use Rattle.frontier.specs.Paint.{Lent, lent, Files, Named}
use Rattle.frontier.specs.Painted.{Ample, waiting_ids, MayPaint}
use Rattle.refill.specs.Painted.{Due}
use Rattle.painting.specs.First.{AtFirst}
use Rattle.painting.proofs.FirstState.{opened-kept}

-- the memory with the levels beside it
abbrev pub lent_of : Memory → List ℕ → Lent
lent_of m levels = lent m.names m.marks levels m.times m.line

ids-entries : (width : ℕ) (timed : Bool) (names : List ℕ) (times : List ℤ) (l : List ℕ) → ids (map (entry_of width timed names times) l) ≡ map (id_of width names) l
unfolding ids
ids-entries width timed names times [] = refl
ids-entries width timed names times (s ∷ l) = ap (λ (r : List Id). id_of width names s ∷ r) (ids-entries width timed names times l)

module _ {i : Input} {r : Record} {m : Memory} {levels : List ℕ} {st : State} (a : AtFirst i r m levels st) where
  none-refused : refusal i ≡ None
  none-refused = open_accepted i st a.accepted

  pub unpainted : r.painted ≡ false
  unpainted = sym a.reads.painted ∙ (open_fresh i st a.accepted).not-painted

  pub kept : r.kept ≡ true
  kept = sym a.reads.kept ∙ opened-kept i st a.accepted

  pub waiting-ids : waiting_ids (width_in i) r.queue (lent_of m levels) ≡ ids st.queue
  waiting-ids = sym (ap ids a.reads.queue ∙ ids-entries (width_in i) (by_time i.settings) m.names m.times (waiting r m))

  -- ---- the files

  pub files : Files (width_in i) (cache_of (width_in i) i.graph true) i.graph i.store
  files =
      let g = accepted i none-refused in
      record {
        store_ok = g.store_ok;
        graph-ok = good-cache (width_in i) i.graph true (⊎_elim (or_left (is_empty i.graph) (graph_ok (width_in i) i.graph)) (or_right (is_empty i.graph) (graph_ok (width_in i) i.graph)) g.graph-ok);
        small = width-most i.settings.kind;
      }

  pub same-world : world_under (width_in i) (cache_of (width_in i) i.graph true) i.graph i.store ≡ (walk_of i).world
  unfolding walk_of
  same-world = kept-world (width_in i) i.graph i.store

  -- ---- marks before painting

  table : Table (width_in i) false m.names m.marks (P i)
  table = subst (λ (b : Bool). Table (width_in i) b m.names m.marks (P i)) unpainted a.reads.table

  taken-seen : (k : ℕ) → k < P i → live_at false m.marks k ≡ true → seen (get_or m.marks k 0) ≡ true
  taken-seen k l h = (a.reads.only_seen unpainted k l h).0

  pub taken-plain : (k : ℕ) → k < P i → live_at false m.marks k ≡ true → frontier (get_or m.marks k 0) ≡ false
  taken-plain k l h = (a.reads.only_seen unpainted k l h).1

  held-seen : (y : Id) → (mark_for (width_in i) false m.names m.marks (P i) y ≡ 0 → ⊥) → st.seen y ≡ true
  held-seen y n =
      ⊎_elim
      (λ u.
      a.reads.seen-is y ∙ ap (λ (b : Bool). seen (mark_for (width_in i) b m.names m.marks (P i) y)) unpainted ∙ ap seen u.mark
      ∙ taken-seen u.slot u.holds.low u.holds.alive)
      (λ u. absurd (n u.1))
      (look (width_in i) false m.names m.marks (P i) y)

  -- ---- room

  named : Named (width_in i) (P i) (universe i) (lent_of m levels)
  named = record {
    few = universe_length i none-refused;
    small = omega (arith, places-few i none-refused);
    inside = λ y n. (open_named i st a.accepted).seen_in y (held-seen y n);
  }

  lists-short : length (ids st.queue) + length (list_ids (width_in i) i.hidden) + length (names i) ≤ P i
  unfolding universe
  lists-short =
      omega (
        arith,
        (open_fresh i st a.accepted).short,
        length_ids st.queue,
        universe_length i none-refused,
        length-append (list_ids (width_in i) i.tips) (list_ids (width_in i) i.hidden ++ names i),
        length-append (list_ids (width_in i) i.hidden) (names i),
      )

  ample : Ample (walk_of i).world (P i) (universe i) (ids st.queue) (list_ids (width_in i) i.hidden)
  unfolding walk_of
  ample = record {
    parents = names i;
    short = lists-short;
    each-parent = kids_named i;
    waiting_in = (open_named i st a.accepted).queue_in;
    hidden_in = hidden_in i;
    parents_in = kid_in i;
  }

  may-walk : MayPaint (width_in i) (walk_of i).world (P i) (universe i) (lent_of m levels) r.queue (list_ids (width_in i) i.hidden)
  may-walk = record {
    table = table;
    for_levels = a.for_levels;
    for_times = a.reads.for_times;
    for_line = a.reads.for_line;
    queue-cap = a.reads.cap;
    good = a.reads.good;
    only_seen = taken-seen;
    waits-seen = a.reads.waits-seen;
    named = named;
    ample = subst (λ (l : List Id). Ample (walk_of i).world (P i) (universe i) l (list_ids (width_in i) i.hidden)) (sym waiting-ids) ample;
  }

  pub may-paint : MayPaint (width_in i) (world_under (width_in i) (cache_of (width_in i) i.graph true) i.graph i.store) (P i) (universe i) (lent_of m levels) r.queue (list_ids (width_in i) i.hidden)
  may-paint = subst (λ (w : World). MayPaint (width_in i) w (P i) (universe i) (lent_of m levels) r.queue (list_ids (width_in i) i.hidden)) (sym same-world) may-walk

  -- ---- what ends painting

  pub due : Due r m (shape_of i) st
  due =
      let f = open_fresh i st a.accepted in
      let n = roomy-fits i none-refused st (open_roomy i st a.accepted) in
      record {
        reads = a.reads;
        unpainted = unpainted;
        waited = omega (arith, f.tallied);
        few = omega (arith, f.tallied, n.admitted-fits, a.reads.struck, places-few i none-refused);
      }
