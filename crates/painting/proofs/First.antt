-- The first call's painting, put together: where it is not due the state is the next commit's at once; else the painting in lent memory is the
-- walk's painting, and what ends it leaves the walk's state after painting, or its refusal. Assumes nothing.
use Rattle.std.specs.Prelude.{Option, Ok, Err}
use Rattle.commitgraph.specs.declared.Layout.{Layout}
use mathlib.Core.Path.{◌≡◌, refl, sym, ap, ap₂, ◌∙◌, subst, subst₂, subst₃}
use mathlib.Core.Logic.{◌⊎◌, inl, ⊎_elim}
use Prim.Native.Nat.{ℕ, ◌*◌, ◌/◌}
use mathlib.Core.Bool.{Bool, true, false, cond, ◌&&◌, ◌||◌}
use mathlib.Core.List.{List, [], ◌∷◌}
use native.Mathlib.Omega.{arith}
use lib.ListN.{length}
use lib.IntN.{ℤ}
use Rattle.hash.specs.Bytes.{Id}
use Rattle.hash.proofs.Tests.{and_first, clash, or_left, or_right}
use Rattle.hashtable.specs.Marks.{frontier}
use Rattle.hashtable.specs.Table.{mark_for}
use Rattle.pending.specs.declared.Pending.{Pending}
use Rattle.walk.specs.declared.Refusal.{Refusal}
use Rattle.walk.specs.Lookup.{World}
use Rattle.walk.specs.State.{Walk, State, nobody, ids, is_empty}
use Rattle.walk.specs.Opening.{Input, P, walk_of, list_ids, Opening, width_in}
use Rattle.walk.specs.Painting.{Painting, stop, paint, both_marks}
use Rattle.walk.specs.Next.{refused, Step, step, take_next, outside, painted_with, after_paint, first_call}
use Rattle.walk.specs.Calls.{state_of, state_after, answer_on, answer_at_call}
use Rattle.walk.specs.Reach.{Mem}
use Rattle.walk.specs.AnyInput.{OfCall, RefusedByCall}
use Rattle.walk.proofs.Moves.{next-first, first_plain, first-paint}
use Rattle.walk.proofs.Named.{paint-within}
use Rattle.walk.proofs.Refused.{refused_by-call}
use Rattle.walk.specs.Universe.{universe}
use Rattle.walk.proofs.Universe.{universe_length, open_named, hidden_in, kid_in}
use Rattle.walk.proofs.Tips.{open_accepted}
use Rattle.walk.proofs.Whole.{length_list, open_fresh}
use Rattle.reading.specs.Files.{cache_with, cache_of, world_under}
use Rattle.state.specs.declared.Fixed.{Fixed}
use Rattle.state.specs.declared.Record.{Record}
use Rattle.state.specs.Reads.{Memory, Universe}
use Rattle.state.specs.Shapes.{shape_of}
use Rattle.state.specs.Steps.{mem}
use Rattle.state.proofs.States.{queue-length}
use Rattle.frontier.specs.Paint.{Marked}
use Rattle.frontier.specs.declared.marking.MarkError.TheVariants.{Stop, NoRoom}
use Rattle.frontier.specs.Paint.{lent, Goes, Stops, Ends}
use Rattle.frontier.specs.Painted as all
use Rattle.refill.specs.Painted.{Skips, Leaves, Fails}
use Rattle.painting.specs.First.{Painted, AtFirst, GoesOn, GivesUp, Told, Paints}
use Rattle.painting.specs.Inner.{RefusesCall, Finished, Finishes}
use Rattle.painting.proofs.FirstState.{opened-timed}
use Rattle.painting.proofs.Ready.{lent_of, kept, waiting-ids, files, same-world, taken-plain, may-paint, due}
use Rattle.painting.proofs.Kept.{spared}
use Rattle.hash.specs.Bytes.{width_of}
use Rattle.hash.specs.declared.Kind.{Kind}

-- ---- whether painting is due

none-there : {A : Type 0} (l : List A) → length l ≡ 0 → is_empty l ≡ true
unfolding is_empty
none-there [] e = refl
none-there (x ∷ l) e = absurd (omega arith)

some-there : {A : Type 0} (l : List A) → (length l ≡ 0 → ⊥) → is_empty l ≡ false
unfolding is_empty
some-there [] n = absurd (n refl)
some-there (x ∷ l) n = refl

-- ---- after painting

-- the call that painting ends
first-stop : (v : Walk) (st : State) (n : Refusal) → (is_empty v.hidden || is_empty st.queue) ≡ false → paint v.world v.fuel (ids st.queue) v.hidden ≡ stop n
    → first_call v st ≡ step (refused n) [] (painted_with st [] nobody)
unfolding first_call after_paint
first-stop v st n e k =
    ap (λ (b : Bool). cond b (take_next v (painted_with st st.queue nobody)) (after_paint v st (paint v.world v.fuel (ids st.queue) v.hidden))) e
    ∙ ap (after_paint v st) k

-- the files as painting reads them, and the painting in lent memory
abbrev world : Input → World
world i = world_under (width_in i) (cache_of (width_in i) i.graph true) i.graph i.store

abbrev whole : Input → Record → Memory → List ℕ → Painting
whole i r m levels = paint (world i) (4 * P i) (all.waiting_ids (width_in i) r.queue (lent_of m levels)) (list_ids (width_in i) i.hidden)

-- what holds where painting was due: it ran, and was finished
pub record Made (r : Record) (m : Memory) (levels names' marks' levels' : List ℕ) (times' times'' : List ℤ) (line' line'' : List ℕ) (c : Option Layout) (x : Marked) (y : Painted)
    (store graph hidden : List ℕ) : Type 0 where
  pub some-hidden : length hidden / width_of r.fixed.kind ≡ 0 → ⊥
  pub some_wait : r.queue.count ≡ 0 → ⊥
  pub cache-is : c ≡ cache_with graph r.fixed.layout r.kept
  pub paints : all.Paints (width_of r.fixed.kind) c graph store r.queue.cap (lent_of m levels) (lent names' marks' levels' times' line') r.queue (list_ids (width_of r.fixed.kind) hidden) x
  pub long-times : length times' ≡ length m.times
  pub long-line : length line' ≡ length m.line
  pub finishes : Finishes x r store names' marks' times' times'' line' line'' y

module _ {i : Input} {r : Record} {m : Memory} {levels : List ℕ} {st : State} (a : AtFirst i r m levels st) where
  -- the kind of ids is the opening's
  pub same_kind : r.fixed.kind ≡ i.settings.kind
  same_kind = ap (λ (f : Fixed). f.kind) a.reads.fixed

  -- the ids after painting
  inside : (l : List (Id × ℤ)) (f : Id → Bool) → ((x : Id) → f x ≡ true → Mem x (universe i)) → Universe (shape_of i) (painted_with st l f) (universe i)
  unfolding painted_with
  inside l f h = record { few = universe_length i (open_accepted i st a.accepted); has-seen = (open_named i st a.accepted).seen_in; has-frontier = h }

  admitted-same : (l : List (Id × ℤ)) (f : Id → Bool) → (painted_with st l f).admitted ≡ st.admitted
  unfolding painted_with
  admitted-same l f = refl

  -- ---- painting is not due

  no-hidden : length i.hidden / width_in i ≡ 0 → is_empty (walk_of i).hidden ≡ true
  unfolding walk_of
  no-hidden h = none-there (list_ids (width_in i) i.hidden) (length_list (width_in i) i.hidden ∙ h)

  none-wait : r.queue.count ≡ 0 → is_empty st.queue ≡ true
  none-wait h = none-there st.queue (queue-length a.reads ∙ h)

  goes-plain : {r' : Record} → (is_empty (walk_of i).hidden || is_empty st.queue) ≡ true → Skips r r' → GoesOn i st r' m
  goes-plain h s = record {
    after = painted_with st st.queue nobody;
    is = first_plain (walk_of i) st h;
    reads = s.reads m (shape_of i) st (due a) (taken-plain a);
    inside = inside st.queue nobody (λ x k. clash k refl);
    same-admitted = admitted-same st.queue nobody;
  }

  pub not-due : {r' : Record} → (length i.hidden / width_in i ≡ 0) ⊎ (r.queue.count ≡ 0) → Skips r r' → GoesOn i st r' m
  not-due h s =
      goes-plain
      (⊎_elim
      (λ e. or_left (is_empty (walk_of i).hidden) (is_empty st.queue) (no-hidden e))
      (λ e. or_right (is_empty (walk_of i).hidden) (is_empty st.queue) (none-wait e)) h)
      s

  -- ---- painting is due

  some-to-hide : (length i.hidden / width_in i ≡ 0 → ⊥) → is_empty (walk_of i).hidden ≡ false
  unfolding walk_of
  some-to-hide n = some-there (list_ids (width_in i) i.hidden) (λ e. n (sym (length_list (width_in i) i.hidden) ∙ e))

  is-due : (length i.hidden / width_in i ≡ 0 → ⊥) → (r.queue.count ≡ 0 → ⊥) → (is_empty (walk_of i).hidden || is_empty st.queue) ≡ false
  is-due n q = ap₂ (λ (b c : Bool). b || c) (some-to-hide n) (some-there st.queue (λ e. q (sym (queue-length a.reads) ∙ e)))

  -- the painting in lent memory is the walk's
  walks : {p : Painting} → whole i r m levels ≡ p → paint (walk_of i).world (walk_of i).fuel (ids st.queue) (walk_of i).hidden ≡ p
  unfolding walk_of
  walks e = sym (ap₂ (λ (w : World) (l : List Id). paint w (4 * P i) l (list_ids (width_in i) i.hidden)) (same-world a) (waiting-ids a)) ∙ e

  module _ (h : (is_empty (walk_of i).hidden || is_empty st.queue) ≡ false) (m' : Memory) (levels' : List ℕ) (lt : length m'.times ≡ length m.times)
      (ll : length m'.line ≡ length m.line) where
    frontier-is : {q : Pending} (g : Goes (width_in i) (world i) (P i) (universe i) (all.start_of (P i)) (lent_of m levels) (lent_of m' levels') q (whole i r m levels)) (x : Id)
        → both_marks g.state x ≡ frontier (mark_for (width_in i) false m'.names m'.marks (P i) x)
    unfolding frontier
    frontier-is g x = ap₂ (λ (b c : Bool). b && c) (g.reads.vis x) (g.reads.hid x)

    goes_on : {q : Pending} {times'' : List ℤ} {line'' : List ℕ} {r' : Record}
        → Goes (width_in i) (world i) (P i) (universe i) (all.start_of (P i)) (lent_of m levels) (lent_of m' levels') q (whole i r m levels)
        → Leaves r i.store m'.names m'.marks m'.times times'' m'.line line'' r' → GoesOn i st r' (mem m'.names m'.marks times'' line'')
    goes_on g l =
        let f : Id → Bool = both_marks g.state in
        record {
          after = painted_with st (outside f st.queue) f;
          is = first-paint (walk_of i) st g.state h (walks g.is);
          reads = l.reads m (shape_of i) st i.graph f (due a) (spared g.spares g.reads.table lt ll) (files a).store_ok
              (opened-timed i st a.accepted) (frontier-is g);
          inside = inside (outside f st.queue) f (λ x k. paint-within (walk_of i).world (universe i) (kid_in i) (walk_of i).fuel (ids st.queue) (walk_of i).hidden g.state
              (open_named i st a.accepted).queue_in (hidden_in i) (walks g.is) x (inl (and_first (g.state.vis x) (g.state.hid x) k)));
          same-admitted = admitted-same (outside f st.queue) f;
        }

    -- a refusal in painting is one of a call
    of_call : {n : Refusal} → whole i r m levels ≡ stop n → OfCall n
    unfolding RefusedByCall answer_at_call answer_on state_after state_of step
    of_call {n} e =
        refused_by-call i st a.accepted 0 n
        (ap (λ (o : Opening). (answer_on (walk_of i) (state_of o) o).kind) a.accepted
        ∙ ap (λ (s : Step). s.answer.kind) (next-first (walk_of i) st (open_fresh i st a.accepted).not-painted ∙ first-stop (walk_of i) st n h (walks e)))

    gives_up : {n why : Refusal} {r' : Record} → Stops (width_in i) (P i) (all.start_of (P i)) (lent_of m levels) (lent_of m' levels') n (whole i r m levels) → RefusesCall n why → Fails r r'
        → GivesUp i st why r' m'
    gives_up {n} {why} s w f = record {
      after = painted_with st [] nobody;
      is = first-stop (walk_of i) st n h (walks s.is) ∙ ap (λ (k : Refusal). step (refused k) [] (painted_with st [] nobody)) (sym (w.same (of_call s.is)));
      reads = f.reads m m' (shape_of i) st (due a) (spared s.spares s.table lt ll);
    }

    ends : (times'' : List ℤ) (line'' : List ℕ) (x : Marked) (y : Painted)
        → Ends (width_in i) (world i) (P i) (universe i) (all.start_of (P i)) (lent_of m levels) (lent_of m' levels') x (whole i r m levels)
        → Finished r i.store m'.names m'.marks m'.times times'' m'.line line'' x y → Told i st (mem m'.names m'.marks times'' line'') y
    ends times'' line'' (Ok q) y g f = subst (Told i st (mem m'.names m'.marks times'' line'')) (sym f.1) (goes_on g f.2)
    ends times'' line'' (Err (Stop n)) y s f =
        subst (Told i st (mem m'.names m'.marks times'' line'')) (sym f.2)
        (subst₂ (λ (t : List ℤ) (l : List ℕ). GivesUp i st f.0 f.1 (mem m'.names m'.marks t l)) (sym f.5) (sym f.6) (gives_up s f.3 f.4))
    ends times'' line'' (Err NoRoom) y n f = absurd n

  pub is_made : {names' marks' levels' : List ℕ} {times' times'' : List ℤ} {line' line'' : List ℕ} {c : Option Layout} {x : Marked} {y : Painted}
      → Made r m levels names' marks' levels' times' times'' line' line'' c x y i.store i.graph i.hidden → Told i st (mem names' marks' times'' line'') y
  is_made {names'} {marks'} {levels'} {times'} {times''} {line'} {line''} {c} {x} {y} d =
      let p : all.Paints (width_in i) (cache_of (width_in i) i.graph true) i.graph i.store (P i) (lent_of m levels) (lent names' marks' levels' times' line') r.queue (list_ids (width_in i) i.hidden) x =
      subst₂ (λ (k : Option Layout) (n : ℕ). all.Paints (width_in i) k i.graph i.store n (lent_of m levels) (lent names' marks' levels' times' line') r.queue (list_ids (width_in i) i.hidden) x)
      (d.cache-is ∙ ap₂ (cache_with i.graph) (ap (λ (f : Fixed). f.layout) a.reads.fixed) (kept a)) a.reads.cap
      (subst (λ (k : Kind). all.Paints (width_of k) c i.graph i.store r.queue.cap (lent_of m levels) (lent names' marks' levels' times' line') r.queue (list_ids (width_of k) i.hidden) x)
      same_kind d.paints) in
      ends (is-due (λ e. d.some-hidden (ap (λ (k : Kind). length i.hidden / width_of k) same_kind ∙ e)) d.some_wait) (mem names' marks' times' line') levels' d.long-times d.long-line times'' line'' x y (p.right (files a) (universe i) (may-paint a)) d.finishes.does

-- ---- as a contract

pub skipped : {store graph hidden : List ℕ} {r r' : Record} {m : Memory} {levels : List ℕ} → (length hidden / width_of r.fixed.kind ≡ 0) ⊎ (r.queue.count ≡ 0) → Skips r r'
    → Paints store graph hidden r m levels m (Ok r')
skipped {r = r} h s = record {
  right = λ i es eg eh st a. not-due a (subst₂ (λ (k : Kind) (l : List ℕ). (length l / width_of k ≡ 0) ⊎ (r.queue.count ≡ 0)) (same_kind a) (sym eh) h) s;
  of_call = tt;
}

pub made : {store graph hidden : List ℕ} {r : Record} {m : Memory} {levels names' marks' levels' : List ℕ} {times' times'' : List ℤ} {line' line'' : List ℕ} {c : Option Layout} {x : Marked} {y : Painted}
    → Made r m levels names' marks' levels' times' times'' line' line'' c x y store graph hidden → Paints store graph hidden r m levels (mem names' marks' times'' line'') y
made {r = r} {m = m} {levels = levels} {names' = names'} {marks' = marks'} {levels' = levels'} {times' = times'} {times'' = times''} {line' = line'} {line'' = line''} {c = c} {x = x} {y = y} d = record {
  right = λ i es eg eh st a. is_made a (subst₃ (Made r m levels names' marks' levels' times' times'' line' line'' c x y) (sym es) (sym eg) (sym eh) d);
  of_call = d.finishes.of_call;
}
