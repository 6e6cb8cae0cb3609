-- A turn: the slot that leaves has the first commit of the walk's queue, its mark is that commit's, and it was read, so its parents are
-- there. The turns: after i of them the memory reads as the painting after i turns, and when no queued commit lacks STALE, or no turn is
-- left, more turns change nothing. Assumes nothing.
use Rattle.std.specs.Prelude.{Option, Some, None, Ok, Err}
use Rattle.commitgraph.specs.declared.Layout.{Layout}
use mathlib.Core.Path.{◌≡◌, refl, sym, ◌∙◌, ap, subst}
use mathlib.Core.Logic.{◌⊎◌, inl, inr, ⊎_elim}
use Prim.Native.Nat.{ℕ, zero, suc, ◌+◌, ◌-◌, ◌≤◌, ◌<◌}
use mathlib.Core.Bool.{Bool, true, false, cond, ◌&&◌, ◌||◌}
use mathlib.Core.List.{List, [], ◌∷◌, map}
use native.Mathlib.Omega.{arith}
use lib.Dec.{ltb}
use lib.ListN.{take, get_or}
use borrow.Author.Tests.{ltb-true, ltb-false}
use Rattle.hash.specs.Bytes.{Id}
use Rattle.hash.proofs.Tests.{by_cases, clash, guard_test, guarded}
use Rattle.hashtable.specs.Marks.{visible, hidden, stale}
use Rattle.hashtable.specs.Table.{id_of, mark_for}
use Rattle.hashtable.proofs.TableIds.{less?}
use Rattle.hashtable.proofs.TableView.{mark-held}
use Rattle.pending.specs.Pending.{slots_in, waiting, Took, Pops, stale_at}
use Rattle.pending.specs.declared.Pending.{Pending}
use Rattle.pending.specs.declared.Taken.{Taken}
use Rattle.pending.proofs.Laws.{empty-slots, fresh-map, fresh-slots, taken_in}
use Rattle.walk.specs.Lookup.{World, Pair, read, parents_of}
use Rattle.walk.specs.Painting.{Paint, Painting, going, then, Marks, pass, passed, with_pending, fresh, turn, turns}
use Rattle.reading.specs.Files.{world_under}
use Rattle.reading.specs.declared.Commit.{Commit}
use Rattle.frontier.specs.declared.marking.MarkError.{MarkError}
use Rattle.frontier.specs.declared.marking.MarkError.TheVariants.{Stop, NoRoom}
use Rattle.frontier.specs.Bits.{is_painted, marks_of, passed_bits}
use Rattle.frontier.specs.Paint.{Marked, Lent, Files, entry_at, PaintReads, Goes, Ends}
use Rattle.frontier.specs.Parents.{ReadsParents}
use Rattle.frontier.specs.Lists.{PassesAll}
use Rattle.frontier.specs.Turns.{TakesTurn, any_lacking, MayTurns, TakesTurns}
use Rattle.frontier.proofs.PaintBits.{painted-live, visible-passed, hidden-passed, stale-passed, painted-passed}
use Rattle.frontier.proofs.MarkStep.{spares-none}
use Rattle.frontier.proofs.ReadAgain.{has-parents}
use Rattle.frontier.proofs.Steps.{ends-then, goes-still, then_is, then-stop, then-going, then-both, Long, long-none, long-then}

-- ---- the queue's marks

fresh_nil : (f : Id → Bool) → fresh f [] ≡ false
unfolding fresh
fresh_nil f = refl

fresh_cons : (f : Id → Bool) (q : Pair × Id) (l : List (Pair × Id)) → fresh f (q ∷ l) ≡ cond (f q.1) (fresh f l) true
unfolding fresh
fresh_cons f q l = refl

module _ {width : ℕ} {w : World} {cap : ℕ} {m : Lent} {p : Pending} {st : Paint} (r : PaintReads width w cap m p st) where
  -- the mark of a slot with one of painting's marks is that of its id
  id-mark : (s : ℕ) → s < cap → is_painted (get_or m.marks s 0) ≡ true → mark_for width false m.names m.marks cap (id_of width m.names s) ≡ get_or m.marks s 0
  id-mark s l h = mark-held r.table s (record { low = l; alive = painted-live (get_or m.marks s 0) h; is = refl })

  pub fresh-is : any_lacking m.marks m.line p ≡ fresh st.stale st.pending
  fresh-is =
      sym (fresh-slots (stale_at m.marks) m.levels m.times p m.line)
      ∙ fresh-map (entry_at width m.names m.levels m.times) (stale_at m.marks) (λ q. st.stale q.1) (λ l. fresh st.stale l) (fresh_nil st.stale) (fresh_cons st.stale)
      (slots_in m.levels m.times p m.line)
      (λ y i.
      let o = r.queued y i in
      ap stale (sym (id-mark y o.0 o.1)) ∙ sym (r.stale (id_of width m.names y)))
      ∙ ap (fresh st.stale) (sym r.queue)

  passed_is : (s : ℕ) → s < cap → is_painted (get_or m.marks s 0) ≡ true → passed st (id_of width m.names s) ≡ marks_of (passed_bits (get_or m.marks s 0))
  unfolding passed
  passed_is s l h =
      let x : Id = id_of width m.names s in
      let n : ℕ = get_or m.marks s 0 in
      let k = id-mark s l h in
      let v : st.vis (id_of width m.names s) ≡ visible (get_or m.marks s 0) = r.vis (id_of width m.names s) ∙ ap visible k in
      let d : st.hid (id_of width m.names s) ≡ hidden (get_or m.marks s 0) = r.hid (id_of width m.names s) ∙ ap hidden k in
      let e : st.stale (id_of width m.names s) ≡ stale (get_or m.marks s 0) = r.stale (id_of width m.names s) ∙ ap stale k in
      let v' = v ∙ sym (visible-passed (get_or m.marks s 0)) in
      let d' = d ∙ sym (hidden-passed (get_or m.marks s 0)) in
      let e' =
      ap (λ (t : Bool). t || (st.vis (id_of width m.names s) && st.hid (id_of width m.names s))) e
      ∙ ap (λ (t : Bool). stale (get_or m.marks s 0) || (t && st.hid (id_of width m.names s))) v
      ∙ ap (λ (t : Bool). stale (get_or m.marks s 0) || (visible (get_or m.marks s 0) && t)) d
      ∙ sym (stale-passed (get_or m.marks s 0)) in
      λ i. record { v = v' i; h = d' i; s = e' i }

-- ---- a turn

turn-first : (w : World) (st : Paint) (q : Pair × Id) (qs : List (Pair × Id)) → turn w st (q ∷ qs) ≡ pass w (passed st q.1) (parents_of (read w q.1)) (with_pending qs st)
unfolding turn
turn-first w st q qs = refl

turn-empty : (w : World) (st : Paint) → turn w st [] ≡ going st
unfolding turn
turn-empty w st = refl

module _ {width : ℕ} {w : World} {cap : ℕ} {m : Lent} {p : Pending} {st : Paint} {t : Taken} (r : PaintReads width w cap m p st) (e : Took m.levels m.times p m.line t) where
  abbrev rest : List (Pair × Id)
  rest = map (entry_at width m.names m.levels m.times) (slots_in m.levels m.times t.pending m.line)

  first-is : st.pending ≡ entry_at width m.names m.levels m.times t.slot ∷ rest
  first-is = r.queue ∙ ap (map (entry_at width m.names m.levels m.times)) e.slots

  rest-reads : PaintReads width w cap m t.pending (with_pending rest st)
  unfolding with_pending
  rest-reads = record {
    table = r.table;
    for_levels = r.for_levels;
    for_times = r.for_times;
    right = e.right;
    vis = r.vis;
    hid = r.hid;
    stale = r.stale;
    queue = refl;
    queued = λ s i. r.queued s (taken_in e s (inr i));
    known = r.known;
  }

  turn_is : turn w st st.pending ≡ pass w (passed st (id_of width m.names t.slot)) (parents_of (read w (id_of width m.names t.slot))) (with_pending rest st)
  turn_is = ap (turn w st) first-is ∙ turn-first w st (entry_at width m.names m.levels m.times t.slot) rest

module _ {width : ℕ} {c : Option Layout} {g s : List ℕ} {cap : ℕ} {m : Lent} {p : Pending} where
  pub turn-some : {t : Taken} {m' : Lent} {d : Commit} {y : Id} {n b : ℕ} {r : Marked} → Pops m.levels m.times p m.line (Some t) → n ≡ get_or m.marks t.slot 0 → b ≡ passed_bits n → y ≡ id_of width m.names t.slot
      → ReadsParents width c g s y d → PassesAll width c g s cap m m' t.pending d b r → TakesTurn width c g s cap m m' p r
  turn-some {t} {m'} {d} {y} {n} {b} {r} v en eb ey rd o = record {
    right = λ f u st h.
        let e = v.1 in
        let i = h.reads.queued t.slot (taken_in e t.slot (inl refl)) in
        let x : Id = id_of width m.names t.slot in
        let ebits : b ≡ passed_bits (get_or m.marks t.slot 0) = eb ∙ ap passed_bits en in
        let k : passed st (id_of width m.names t.slot) ≡ marks_of b = passed_is h.reads t.slot i.0 i.1 ∙ ap marks_of (sym ebits) in
        let st' : Paint = with_pending (rest h.reads e) st in
        let gone : Goes width (world_under width c g s) cap u p m m t.pending (going (with_pending (rest h.reads e) st)) =
        record {
          state = with_pending (rest h.reads e) st;
          is = refl;
          reads = rest-reads h.reads e;
          named = h.named;
          spares = spares-none width cap p.base m;
          base = e.base;
          end = e.end;
        } in
        ends-then m' r gone
        (ap
        (λ (z : Marks). pass (world_under width c g s) z (parents_of (read (world_under width c g s) (id_of width m.names t.slot))) (with_pending (rest h.reads e) st)) (sym k)
        ∙ sym (turn_is h.reads e))
        (o.right f (id_of width m.names t.slot) (has-parents f (h.reads.known t.slot i.0 i.1).is (subst (λ (z : Id). ReadsParents width c g s z d) ey rd)) u (with_pending (rest h.reads e) st)
        (record {
          reads = rest-reads h.reads e;
          named = h.named;
          in_u = h.parents_in (id_of width m.names t.slot);
          some-mark = ap is_painted ebits ∙ painted-passed (get_or m.marks t.slot 0) i.1;
          room = λ j st'' q.
              omega (
                arith,
                h.room (entry_at width m.names m.levels m.times t.slot) (rest h.reads e) (first-is h.reads e) j st''
                    (ap (λ (z : Marks). pass (world_under width c g s) z (take j (parents_of (read (world_under width c g s) (id_of width m.names t.slot)))) (with_pending (rest h.reads e) st)) k ∙ q),
                e.base,
                e.end,
              );
        }));
  }

  pub turn-none : Pops m.levels m.times p m.line None → TakesTurn width c g s cap m m p (Ok p)
  turn-none v = record {
    right = λ f u st h.
        let l : waiting p ≡ 0 = ⊎_elim (λ k. absurd (v (record { right = h.reads.right; some = k }))) (λ k. omega (arith, k)) (less? 0 (waiting p)) in
        let e : st.pending ≡ [] = h.reads.queue ∙ ap (map (entry_at width m.names m.levels m.times)) (empty-slots m.levels m.times p m.line l) in
        goes-still (ap (turn (world_under width c g s) st) e ∙ turn-empty (world_under width c g s) st) h.reads h.named;
  }

-- ---- the turns of the walk's painting

no-turn : (w : World) (k : ℕ) (st : Paint) → fresh st.stale st.pending ≡ false → turns w k st ≡ going st
unfolding turns
no-turn w zero st h = refl
no-turn w (suc k) st h = rw h

turns-zero : (w : World) (st : Paint) → turns w 0 st ≡ going st
unfolding turns
turns-zero w st = refl

one-turn : (w : World) (st : Paint) → fresh st.stale st.pending ≡ true → turns w 1 st ≡ turn w st st.pending
unfolding turns
one-turn w st h = rw h (then-going (turn w st st.pending))

turns-add : (w : World) (i d : ℕ) (st : Paint) → turns w (i + d) st ≡ then (turns w i st) (λ st'. turns w d st')
unfolding turns
turns-add w zero d st = let e : zero + d ≡ d = omega arith in ap (λ (k : ℕ). turns w k st) e ∙ sym (then_is (λ st'. turns w d st') st)
turns-add w (suc i) d st =
    let e : suc i + d ≡ suc (i + d) = omega arith in
    ap (λ (k : ℕ). turns w k st) e
    ∙ by_cases (fresh st.stale st.pending)
    (λ h. rw h (then-both (turn w st st.pending) (λ s. turns w (i + d) s) (λ s. turns w i s) (λ s. turns w d s) (λ s. turns-add w i d s)))
    (λ h. rw h (sym (no-turn w d st h) ∙ sym (then_is (λ st'. turns w d st') st)))

-- ---- the loop

-- painting has come to the memory m and the answer r after i turns
pub record AfterTurns (width : ℕ) (w : World) (cap : ℕ) (m₀ m : Lent) (p : Pending) (i : ℕ) (r : Marked) : Type 0 where
  pub ends : (u : List Id) (st : Paint) → MayTurns width w cap u m₀ p st → Ends width w cap u p m₀ m r (turns w i st)

-- the loop, after i turns
pub record Taking (width : ℕ) (c : Option Layout) (g s : List ℕ) (cap : ℕ) (m₀ m : Lent) (p : Pending) (i : ℕ) (q : Pending) : Type 0 where
  pub long : Long m₀ m
  pub begun : Files width c g s → AfterTurns width (world_under width c g s) cap m₀ m p i (Ok q)

pub taking_first : (width : ℕ) (c : Option Layout) (g s : List ℕ) (cap : ℕ) (m : Lent) (p : Pending) → Taking width c g s cap m m p 0 p
taking_first width c g s cap m p = record { long = long-none m; begun = λ f. record { ends = λ u st h. goes-still (turns-zero (world_under width c g s) st) h.reads h.named } }

most-is : (w : World) (i most : ℕ) (st : Paint) → i ≤ most → turns w most st ≡ then (turns w i st) (λ st'. turns w (most - i) st')
most-is w i most st l = let e : most ≡ i + (most - i) = omega arith in ap (λ (k : ℕ). turns w k st) e ∙ turns-add w i (most - i) st

module _ {width : ℕ} {c : Option Layout} {g s : List ℕ} {cap : ℕ} {m₀ m : Lent} {p : Pending} {i : ℕ} {q : Pending} (v : Taking width c g s cap m₀ m p i q) where
  -- one turn more
  taken-one : {m' : Lent} {r : Marked} → any_lacking m.marks m.line q ≡ true → TakesTurn width c g s cap m m' q r → Files width c g s → AfterTurns width (world_under width c g s) cap m₀ m' p (i + 1) r
  taken-one {m'} {r} e o f = record {
    ends = λ u st h.
        let gone = (v.begun f).ends u st h in
        let fr : fresh gone.state.stale gone.state.pending ≡ true = sym (fresh-is gone.reads) ∙ e in
        let k : turns (world_under width c g s) (i + 1) st ≡ turn (world_under width c g s) gone.state gone.state.pending =
        turns-add (world_under width c g s) i 1 st
        ∙ ap (λ (b : Painting). then b (λ st'. turns (world_under width c g s) 1 st')) gone.is
        ∙ then_is (λ st'. turns (world_under width c g s) 1 st') gone.state
        ∙ one-turn (world_under width c g s) gone.state fr in
        ends-then m' r gone (sym k)
        (o.right f u gone.state
        (record {
          reads = gone.reads;
          named = gone.named;
          parents_in = h.parents_in;
          room = λ x xs z j st' d. omega (arith, h.room i gone.state gone.is fr x xs z j st' d, gone.base, gone.end);
        }));
  }

  pub taking_next : {m' : Lent} {q' : Pending} → any_lacking m.marks m.line q ≡ true → Long m m' → TakesTurn width c g s cap m m' q (Ok q') → Taking width c g s cap m₀ m' p (i + 1) q'
  taking_next e b o = record { long = long-then v.long b; begun = taken-one e o }

  -- a turn at which painting ends
  pub taking_stop : {m' : Lent} {most : ℕ} {e : MarkError} → i < most → any_lacking m.marks m.line q ≡ true → TakesTurn width c g s cap m m' q (Err e) → TakesTurns width c g s cap m₀ m' p most (Err e)
  taking_stop {m'} {most} {e} l y o = record { right = λ f u st h. go (world_under width c g s) u st e ((taken-one y o f).ends u st h) }
    where
      go : (w : World) (u : List Id) (st : Paint) (e : MarkError) → Ends width w cap u p m₀ m' (Err e) (turns w (i + 1) st) → Ends width w cap u p m₀ m' (Err e) (turns w most st)
      go w u st (Stop n) gone = record {
        is = most-is w (i + 1) most st (omega arith) ∙ ap (λ (b : Painting). then b (λ st'. turns w (most - (i + 1)) st')) gone.is ∙ then-stop n (λ st'. turns w (most - (i + 1)) st');
        table = gone.table;
        spares = gone.spares;
      }
      go w u st NoRoom gone = absurd gone

  -- no turn is due
  pub taking_last : {most : ℕ} → i ≤ most → ((0 < most - i) → any_lacking m.marks m.line q ≡ false) → TakesTurns width c g s cap m₀ m p most (Ok q)
  taking_last {most} l e = record {
    right = λ f u st h.
        let w : World = world_under width c g s in
        let gone = (v.begun f).ends u st h in
        let still : turns (world_under width c g s) (most - i) gone.state ≡ going gone.state =
        ⊎_elim (λ z. no-turn (world_under width c g s) (most - i) gone.state (sym (fresh-is gone.reads) ∙ e z))
        (λ z. let none : most - i ≡ 0 = omega arith in ap (λ (k : ℕ). turns (world_under width c g s) k gone.state) none ∙ turns-zero (world_under width c g s) gone.state) (less? 0 (most - i)) in
        record {
          state = gone.state;
          is = most-is (world_under width c g s) i most st l
              ∙ ap (λ (b : Painting). then b (λ st'. turns (world_under width c g s) (most - i) st')) gone.is
              ∙ then_is (λ st'. turns (world_under width c g s) (most - i) st') gone.state
              ∙ still;
          reads = gone.reads;
          named = gone.named;
          spares = gone.spares;
          base = gone.base;
          end = gone.end;
        };
  }
