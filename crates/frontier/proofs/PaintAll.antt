-- All of painting: marks without painting's, the waiting commits by rising id, VISIBLE to these, HIDDEN to the hidden tips, and the turns;
-- each part goes on where the one before it came to, and a refusal ends them all. Assumes nothing.
use Rattle.std.specs.Prelude.{Option, Ok, Err}
use Rattle.commitgraph.specs.declared.Layout.{Layout}
use mathlib.Core.Path.{◌≡◌, refl, sym, ◌∙◌, ap, subst}
use Prim.Native.Nat.{ℕ, ◌+◌, ◌*◌, ◌≤◌, ◌<◌}
use mathlib.Core.Bool.{true, false, ◌||◌}
use mathlib.Core.List.{List, [], map, Memᴰ}
use native.Mathlib.Omega.{arith}
use lib.IntN.{ℤ}
use lib.ListN.{length, take, get_or}
use lib.Seq.{take-take}
use Rattle.hash.specs.Bytes.{Id}
use Rattle.hash.proofs.Tests.{clash, or_left, or_right, not_yes}
use Rattle.hashtable.specs.Marks.{visible, hidden, stale, seen}
use Rattle.hashtable.specs.Table.{mark_for}
use Rattle.hashtable.proofs.MarksBits.{seen-live}
use Rattle.revwalk.specs.Order.{In}
use Rattle.pending.specs.Pending.{slots_in, Right}
use Rattle.pending.specs.declared.Pending.{Pending}
use Rattle.revwalk.specs.declared.queue.Queue.{Queue}
use Rattle.pending.proofs.Laws.{empty-slots, empty_right, lowered-right}
use Rattle.revwalk.proofs.QueueGood.{good-size}
use Rattle.revwalk.proofs.QueueSlots.{slots-low}
use Rattle.walk.specs.Lookup.{World}
use Rattle.walk.specs.Painting.{Paint, Painting, going, then, VISIBLE, HIDDEN, Marks, mark_all, turns, unpainted, sorted, paint}
use Rattle.walk.proofs.Painted.{sorted-out}
use Rattle.reading.specs.Files.{world_under}
use Rattle.frontier.specs.declared.marking.MarkError.{MarkError}
use Rattle.frontier.specs.declared.marking.MarkError.TheVariants.{Stop, NoRoom}
use Rattle.frontier.specs.Bits.{is_painted, marks_of}
use Rattle.frontier.specs.Paint.{Marked, Lent, lent, Files, entry_at, PaintReads, Spares, Named, Goes, Stops, Ends}
use Rattle.frontier.specs.Lists.{MarksRun, TakesAll}
use Rattle.frontier.specs.Turns.{TakesTurns}
use Rattle.frontier.specs.Prepare.{washed, Collects}
use Rattle.frontier.specs.Painted.{lowered_to, empty_in, start_of, waiting_ids, MayPaint, Paints, MayStart, inputs_marked, MarksInputs, PaintsFrom}
use Rattle.frontier.proofs.Steps.{ends-then, then_is, then-stop}
use Rattle.frontier.proofs.PaintRoom.{paint-parts, turns-room, shown-room, hidden-room}
use Rattle.frontier.proofs.Wash.{washed-low, high-painted, high-seen, high_zero, wash-table, wash-taken, wash-mark}

-- ---- the two marks

visible-is : marks_of 1 ≡ VISIBLE
unfolding visible hidden stale
visible-is = refl

hidden-is : marks_of 2 ≡ HIDDEN
unfolding visible hidden stale
hidden-is = refl

visible-some : is_painted 1 ≡ true
unfolding is_painted visible
visible-some = refl

hidden-some : is_painted 2 ≡ true
unfolding is_painted visible hidden
hidden-some = refl

-- ---- the queue may stand elsewhere, and its memory reach further down

moved : {width : ℕ} {w : World} {cap : ℕ} {m : Lent} {p p' : Pending} {st : Paint} → Right p' m.line → slots_in m.levels m.times p' m.line ≡ slots_in m.levels m.times p m.line
    → PaintReads width w cap m p st → PaintReads width w cap m p' st
moved {width} {m = m} h e r = record {
  table = r.table;
  for_levels = r.for_levels;
  for_times = r.for_times;
  right = h;
  vis = r.vis;
  hid = r.hid;
  stale = r.stale;
  queue = r.queue ∙ ap (map (entry_at width m.names m.levels m.times)) (sym e);
  queued = λ s i. r.queued s (subst (In s) e i);
  known = r.known;
}

spares_less : {width : ℕ} {cap : ℕ} {m m' : Lent} (base low : ℕ) → low ≤ base → Spares width cap base m m' → Spares width cap low m m'
spares_less {width} {m = m} {m' = m'} base low h k = record {
  seen_same = k.seen_same;
  taken = k.taken;
  below = sym (take-take low base m'.line h) ∙ ap (take low) k.below ∙ take-take low base m.line h;
}

-- ---- from slots in the line

-- the queue while n slots stand below its memory
abbrev pub run_of : ℕ → ℕ → Pending
run_of cap n = empty_in (2 * cap + n) (5 * cap)

module _ (width : ℕ) (c : Option Layout) (g s : List ℕ) (cap : ℕ) (m : Lent) (n : ℕ) (hide : List Id) (f : Files width c g s) (u waiting : List Id) (h : MayStart width (world_under width c g s) cap u m n waiting hide) where
  abbrev w : World
  w = world_under width c g s

  module _ (m₁ : Lent) (r₁ : Marked) (large : 5 * cap ≤ length m.line) (few : n ≤ cap) where
    -- the waiting commits get VISIBLE
    shown : MarksRun width c g s cap m m₁ (run_of cap n) (2 * cap) n 1 r₁ → Ends width w cap u (run_of cap n) m m₁ r₁ (mark_all w VISIBLE (sorted waiting) unpainted)
    shown o =
        subst (λ (a : Marks). Ends width w cap u (run_of cap n) m m₁ r₁ (mark_all w a (sorted waiting) unpainted)) visible-is
        (subst (λ (xs : List Id). Ends width w cap u (run_of cap n) m m₁ r₁ (mark_all w (marks_of 1) xs unpainted)) h.ids
        (o.right f u unpainted (record { fits = omega arith; inside = omega arith; taken = h.taken })
        (record {
          reads = moved (empty_right (2 * cap + n) (5 * cap) m.line (omega arith) large)
              (empty-slots m.levels m.times (run_of cap n) m.line (omega arith) ∙ sym (empty-slots m.levels m.times (start_of cap) m.line (omega arith))) h.reads;
          named = h.named;
          in_u = λ x k. h.ample.waiting_in x (sorted-out waiting x (subst (λ (xs : List Id). Memᴰ x xs) h.ids k));
          some-mark = visible-some;
          room = λ i st e.
              omega (arith, shown-room h.ample i (marks_of 1) st (ap (λ (xs : List Id). mark_all w (marks_of 1) (take i xs) unpainted) (sym h.ids) ∙ e), h.ample.short);
        })))

  module _ (m₁ m₂ : Lent) (r₂ : Marked) (p : Pending) (gone : Goes width w cap u (run_of cap n) m m₁ p (mark_all w VISIBLE (sorted waiting) unpainted)) where
    -- the hidden tips get HIDDEN
    hiding : TakesAll width mark_all c g s cap m₁ m₂ (lowered_to (2 * cap) p) hide 2 r₂ → Ends width w cap u (start_of cap) m m₂ r₂ (inputs_marked w waiting hide)
    hiding o =
        let low : Goes width w cap u (start_of cap) m m₁ (lowered_to (2 * cap) p) (mark_all w VISIBLE (sorted waiting) unpainted) =
        record {
          state = gone.state;
          is = gone.is;
          reads = moved (lowered-right (2 * cap) p m₁.line (omega (arith, gone.base)) gone.reads.right) refl gone.reads;
          named = gone.named;
          spares = spares_less (2 * cap + n) (2 * cap) (omega arith) gone.spares;
          base = refl;
          end = gone.end;
        } in
        ends-then m₂ r₂ low
        (ap (λ (a : Marks). mark_all w a hide gone.state) hidden-is
        ∙ sym (ap (λ (a : Painting). then a (λ st. mark_all w HIDDEN hide st)) gone.is ∙ then_is (λ st. mark_all w HIDDEN hide st) gone.state))
        (o.right f u gone.state
        (record {
          reads = low.reads;
          named = gone.named;
          in_u = h.ample.hidden_in;
          some-mark = hidden-some;
          room = λ i st e. omega (arith, hidden-room h.ample VISIBLE gone.is i (marks_of 2) st e, gone.end);
        }))

  -- a waiting commit at which painting ends
  not-shown : (m₁ : Lent) (e : MarkError) → Ends width w cap u (run_of cap n) m m₁ (Err e) (mark_all w VISIBLE (sorted waiting) unpainted) → Ends width w cap u (start_of cap) m m₁ (Err e) (inputs_marked w waiting hide)
  not-shown m₁ (Stop k) gone =
      record {
        is = ap (λ (a : Painting). then a (λ st. mark_all w HIDDEN hide st)) gone.is ∙ then-stop k (λ st. mark_all w HIDDEN hide st);
        table = gone.table;
        spares = spares_less (2 * cap + n) (2 * cap) (omega arith) gone.spares;
      }
  not-shown m₁ NoRoom gone = absurd gone

  -- the turns
  turning : (m₂ m₃ : Lent) (r₃ : Marked) (p : Pending) → Goes width w cap u (start_of cap) m m₂ p (inputs_marked w waiting hide)
      → TakesTurns width c g s cap m₂ m₃ p (4 * cap) r₃ → Ends width w cap u (start_of cap) m m₃ r₃ (paint w (4 * cap) waiting hide)
  turning m₂ m₃ r₃ p gone o =
      ends-then m₃ r₃ gone
      (sym
      (ap (λ (a : Painting). then a (λ st. turns w (4 * cap) st)) gone.is ∙ then_is (λ st. turns w (4 * cap) st) gone.state)
      ∙ paint-parts w (4 * cap) waiting hide)
      (o.right f u gone.state
      (record {
        reads = gone.reads;
        named = gone.named;
        parents_in = h.ample.parents_in;
        room = λ i st e fr q qs z j st' d. omega (arith, turns-room h.ample gone.is i st e fr q qs z j st' d, gone.base, gone.end);
      }))

  -- an input at which painting ends
  not-turning : (m₂ : Lent) (e : MarkError) → Ends width w cap u (start_of cap) m m₂ (Err e) (inputs_marked w waiting hide) → Ends width w cap u (start_of cap) m m₂ (Err e) (paint w (4 * cap) waiting hide)
  not-turning m₂ (Stop k) gone =
      record {
        is = sym (paint-parts w (4 * cap) waiting hide) ∙ ap (λ (a : Painting). then a (λ st. turns w (4 * cap) st)) gone.is ∙ then-stop k (λ st. turns w (4 * cap) st);
        table = gone.table;
        spares = gone.spares;
      }
  not-turning m₂ NoRoom gone = absurd gone

module _ {width : ℕ} {c : Option Layout} {g s : List ℕ} {cap : ℕ} {m m₁ : Lent} {n : ℕ} {hide : List Id} {p : Pending} (large : 5 * cap ≤ length m.line) (few : n ≤ cap) (i : p ≡ run_of cap n) where
  pub marks_inputs : {m₂ : Lent} {q : Pending} {r : Marked} → MarksRun width c g s cap m m₁ p (2 * cap) n 1 (Ok q) → TakesAll width mark_all c g s cap m₁ m₂ (lowered_to (2 * cap) q) hide 2 r
      → MarksInputs width c g s cap m m₂ n hide r
  marks_inputs {m₂} {q} {r} a b = record {
    right = λ f u waiting h.
        hiding width c g s cap m n hide f u waiting h m₁ m₂ r q
        (shown width c g s cap m n hide f u waiting h m₁ (Ok q) large few (subst (λ (x : Pending). MarksRun width c g s cap m m₁ x (2 * cap) n 1 (Ok q)) i a)) b;
  }

  pub stops_inputs : {e : MarkError} → MarksRun width c g s cap m m₁ p (2 * cap) n 1 (Err e) → MarksInputs width c g s cap m m₁ n hide (Err e)
  stops_inputs {e} a = record {
    right = λ f u waiting h.
        not-shown width c g s cap m n hide f u waiting h m₁ e
        (shown width c g s cap m n hide f u waiting h m₁ (Err e) large few (subst (λ (x : Pending). MarksRun width c g s cap m m₁ x (2 * cap) n 1 (Err e)) i a));
  }

module _ {width : ℕ} {c : Option Layout} {g s : List ℕ} {cap : ℕ} {m m₂ : Lent} {n : ℕ} {hide : List Id} where
  pub paints_from : {m₃ : Lent} {q : Pending} {r : Marked} → MarksInputs width c g s cap m m₂ n hide (Ok q) → TakesTurns width c g s cap m₂ m₃ q (4 * cap) r → PaintsFrom width c g s cap m m₃ n hide r
  paints_from {m₃} {q} {r} b d = record { right = λ f u waiting h. turning width c g s cap m n hide f u waiting h m₂ m₃ r q (b.right f u waiting h) d }

  pub stops_from : {e : MarkError} → MarksInputs width c g s cap m m₂ n hide (Err e) → PaintsFrom width c g s cap m m₂ n hide (Err e)
  stops_from {e} b = record { right = λ f u waiting h. not-turning width c g s cap m n hide f u waiting h m₂ e (b.right f u waiting h) }

-- ---- before that

-- a mark without painting's bits
clean_visible : (k : ℕ) → is_painted k ≡ false → visible k ≡ false
unfolding is_painted
clean_visible k e = not_yes (λ y. clash (or_left (visible k) (hidden k || stale k) y) e)

clean-hidden : (k : ℕ) → is_painted k ≡ false → hidden k ≡ false
unfolding is_painted
clean-hidden k e = not_yes (λ y. clash (or_right (visible k) (hidden k || stale k) (or_left (hidden k) (stale k) y)) e)

clean-stale : (k : ℕ) → is_painted k ≡ false → stale k ≡ false
unfolding is_painted
clean-stale k e = not_yes (λ y. clash (or_right (visible k) (hidden k || stale k) (or_right (hidden k) (stale k) y)) e)

module _ {width : ℕ} {w : World} {cap : ℕ} {u : List Id} {names marks levels : List ℕ} {times : List ℤ} {line line' : List ℕ} {q : Queue} {hide : List Id}
    (h : MayPaint width w cap u (lent names marks levels times line) q hide) (o : Collects width names line q (2 * cap) line') where
  abbrev clean : Lent
  clean = lent names (washed cap marks) levels times line'

  no-mark : (x : Id) → is_painted (mark_for width false names (washed cap marks) cap x) ≡ false
  no-mark x = ap is_painted (wash-mark h.table h.only_seen x) ∙ high-painted (mark_for width false names marks cap x)

  none-queued : slots_in levels times (start_of cap) line' ≡ []
  none-queued = empty-slots levels times (start_of cap) line' (omega arith)

  slot-clean : (s : ℕ) → s < cap → is_painted (get_or (washed cap marks) s 0) ≡ false
  slot-clean s l = ap is_painted (washed-low cap marks s l) ∙ high-painted (get_or marks s 0)

  clean-reads : PaintReads width w cap clean (start_of cap) unpainted
  unfolding In
  clean-reads = record {
    table = wash-table h.table h.only_seen;
    for_levels = h.for_levels;
    for_times = h.for_times;
    right = empty_right (2 * cap) (5 * cap) line' (omega arith) (omega (arith, h.for_line, o.long));
    vis = λ x. sym (clean_visible (mark_for width false names (washed cap marks) cap x) (no-mark x));
    hid = λ x. sym (clean-hidden (mark_for width false names (washed cap marks) cap x) (no-mark x));
    stale = λ x. sym (clean-stale (mark_for width false names (washed cap marks) cap x) (no-mark x));
    queue = sym (ap (map (entry_at width names levels times)) none-queued);
    queued = λ s i. absurd (subst (In s) none-queued i);
    known = λ s l a. clash a (slot-clean s l);
  }

  clean-named : Named width cap u clean
  clean-named = record {
    few = h.named.few;
    small = h.named.small;
    inside = λ y k. h.named.inside y (λ z. k (wash-mark h.table h.only_seen y ∙ high_zero (mark_for width false names marks cap y) z));
  }

  clean-spares : Spares width cap (2 * cap) (lent names marks levels times line) clean
  clean-spares = record {
    seen_same = λ x. ap seen (wash-mark h.table h.only_seen x) ∙ high-seen (mark_for width false names marks cap x);
    taken = λ s l a. (wash-taken h.table h.only_seen s l a, refl);
    below = o.below;
  }

  abbrev waits : List Id
  waits = waiting_ids width q (lent names marks levels times line)

  may-start : MayStart width w cap u clean q.count waits hide
  may-start =
      let k = o.right times h.good (omega (arith, h.queue-cap)) (omega (arith, h.for_line, good-size h.good, h.queue-cap)) in
      record {
        reads = clean-reads;
        named = clean-named;
        ids = k.ids;
        taken = λ s i.
            let j = k.slots s i in
            let l : s < cap = omega (arith, slots-low h.good s j, h.queue-cap) in
            (l, wash-taken h.table h.only_seen s l (seen-live (get_or marks s 0) (h.waits-seen s j)));
        ample = h.ample;
      }

  begun : Goes width w cap u (start_of cap) (lent names marks levels times line) clean (start_of cap) (going unpainted)
  begun = record { state = unpainted; is = refl; reads = clean-reads; named = clean-named; spares = clean-spares; base = refl; end = refl }

pub paints : {width : ℕ} {c : Option Layout} {g s : List ℕ} {cap : ℕ} {names marks levels : List ℕ} {times : List ℤ} {line marks₁ line₁ : List ℕ} {m' : Lent} {q : Queue} {hide : List Id} {r : Marked}
    → marks₁ ≡ washed cap marks → Collects width names line q (2 * cap) line₁ → PaintsFrom width c g s cap (lent names marks₁ levels times line₁) m' q.count hide r
    → Paints width c g s cap (lent names marks levels times line) m' q hide r
paints {width} {c} {g} {s} {cap} {names} {marks} {levels} {times} {line} {marks₁} {line₁} {m'} {q} {hide} {r} e o p = record {
  right = λ f u h.
      ends-then m' r (begun h o) refl
      ((subst (λ (l : List ℕ). PaintsFrom width c g s cap (lent names l levels times line₁) m' q.count hide r) e p).right f u (waits h o) (may-start h o));
}

-- the memory is too small
pub too_small : {width : ℕ} {c : Option Layout} {g s : List ℕ} {cap : ℕ} {m m' : Lent} {q : Queue} {hide : List Id} → (5 * cap ≤ length m.line → ⊥) → Paints width c g s cap m m' q hide (Err NoRoom)
too_small k = record { right = λ f u h. k h.for_line }

pub too_many : {width : ℕ} {c : Option Layout} {g s : List ℕ} {cap : ℕ} {m m' : Lent} {q : Queue} {hide : List Id} → cap < q.count → Paints width c g s cap m m' q hide (Err NoRoom)
too_many k = record { right = λ f u h. omega (arith, good-size h.good, h.queue-cap) }
