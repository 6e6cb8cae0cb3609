-- What an opening comes to: refused, it alters nothing; accepted, its memory reads as the walk's first state, for emptied memory reads as the state
-- before any tip. Assumes nothing.
use Rattle.std.specs.Prelude.{Err, None, Ok}
use mathlib.Core.Path.{◌≡◌, refl, sym, ◌∙◌, ap, subst}
use Prim.Native.Nat.{ℕ}
use mathlib.Core.Bool.{Bool, true, false, ◌&&◌}
use mathlib.Core.List.{List, []}
use native.Mathlib.Omega.{arith}
use lib.ListN.{length}
use lib.IntN.{ℤ}
use Rattle.hash.specs.Bytes.{among}
use Rattle.hash.proofs.Tests.{clash}
use Rattle.walk.specs.declared.Refusal.{Refusal}
use Rattle.walk.specs.declared.CommitTimeOrder.TheVariants.{NewestFirst, OldestFirst}
use Rattle.walk.specs.Settings.{by_time, newest_first}
use Rattle.walk.specs.State.{State, empty_state}
use Rattle.walk.specs.Opening.{Input, list_ids, P, walk_of, refusal, room_for, closed, opened, open_tips, open_walk, width_in}
use Rattle.walk.specs.Given.{open_given}
use Rattle.walk.specs.Calls.{state_of, state_after}
use Rattle.walk.proofs.Whole.{length_list}
use Rattle.opening.specs.Checks.{checked_by}
use Rattle.opening.proofs.Input.{passes, places-few, room}
use Rattle.opening.proofs.Opened.{opens, refused-closed, open_roomy}
use Rattle.state.specs.declared.Record.{Record}
use Rattle.state.specs.Reads.{Memory, Shape, Reads}
use Rattle.state.specs.Shapes.{fixed_of, shape_of, fresh_record}
use Rattle.state.specs.Steps as steps
use Rattle.state.proofs.States.{queue-length}
use Rattle.traverse.specs.declared.Opened.{Opened}
use Rattle.traverse.specs.Contract.{Lent, lengths_of, OpenSays}
use Rattle.traverse.specs.Open.{tips_all, Early, TakesTips, Fills, Refuses, Accepts}
use Rattle.traverse.proofs.OpenTips.{tips-all}

-- ---- tests

pub and_true : (b : Bool) → b ≡ (b && true)
and_true true = refl
and_true false = refl

pub and_false : (b : Bool) → (b && false) ≡ false
and_false true = refl
and_false false = refl

-- ---- the tips are let in, into emptied memory

module _ (i : Input) {names marks marks₁ : List ℕ} {times : List ℤ} {line : List ℕ} {r : Record} {cap : ℕ} (e : cap ≡ P i) (s : steps.Starts marks marks₁ cap) (a : length marks₁ ≡ length marks)
    (f : r ≡ fresh_record (by_time i.settings) (by_time i.settings && newest_first i.settings.sorting) cap (fixed_of i.settings.kind i.graph)) where
  early : refusal i ≡ None → steps.Lent (width_in i) names marks times line (P i) → Early (shape_of i) (list_ids (width_in i) i.tips) 0 r (steps.mem names marks₁ times line) empty_state
  unfolding P
  early z l = record {
    reads = rw (f ∙ ap (λ (n : ℕ). fresh_record (by_time i.settings) (by_time i.settings && newest_first i.settings.sorting) n (fixed_of i.settings.kind i.graph)) e)
        ((subst (steps.Starts marks marks₁) e s).reads (by_time i.settings) (by_time i.settings && newest_first i.settings.sorting) (fixed_of i.settings.kind i.graph) names times line l);
    unfailed = ap (λ (q : Record). q.failed) f;
    few = omega arith;
    universe = record { few = omega (arith, length_list (width_in i) i.tips); has-seen = λ x e. clash e refl; has-frontier = λ x e. clash e refl };
    unpainted = λ x. refl;
  }

  pub fills : {m' : Memory} {r' : Record} → TakesTips (width_in i) i.store i.tips i.excluded i.settings.sorting (steps.mem names marks₁ times line) m' r r'
      → Fills i (steps.mem names marks times line) m' r'
  unfolding walk_of
  fills t = record {
    long = record { names = t.long.names; marks = t.long.marks ∙ a; times = t.long.times; line = t.long.line };
    filled = λ z l. (t.taken (walk_of i) (P i) (fixed_of i.settings.kind i.graph) empty_state refl (passes i z).store-good (i.graph, refl, refl, refl) (omega (arith, places-few i z)) (early z l)).reads;
  }

-- ---- the outcome

pub accepts : (r : Record) (o : Opened) → o.record ≡ r → o.answer ≡ record { outcome = (Ok tt); admitted = r.admitted; struck = r.struck; waiting = r.queue.count } → Accepts r o
unfolding open_given
accepts r o e a = record {
  same = e;
  answer = λ m sh st g. a ∙ (λ k. record { outcome = (Ok tt); admitted = sym g.admitted k; struck = sym g.struck k; waiting = sym (queue-length g) k });
}

never : {r : Refusal} {st : State} {A : Type 0} → closed r ≡ opened st → A
never e = let y : ◌≡◌ {A = ℕ} 0 1 = cc in absurd (omega arith)

pub refused_says : (i : Input) (m : Lent) (o : Opened) {r : Refusal} → Err r ≡ checked_by (open_walk i (room_for i (lengths_of m))) → Refuses r o → OpenSays i m o m
refused_says i m o e a =
    let k = refused-closed (open_walk i (room_for i (lengths_of m))) e in
    record {
      answer = a.answer ∙ ap open_given (sym k);
      refused_open = λ q h. (a.shut, refl);
      accepted_open = λ st h. never (sym k ∙ h);
      same-lengths = refl;
      same-parents = refl;
    }

module _ (i : Input) (m m' : Lent) (o : Opened) {r : Record} (e : (Ok tt) ≡ checked_by (open_walk i (room_for i (lengths_of m)))) (f : Fills i m.memory m'.memory r) (a : Accepts r o)
    (l : length m'.levels ≡ length m.levels) (p : m'.parents ≡ m.parents) where
  same : lengths_of m' ≡ lengths_of m
  unfolding lengths_of
  same = λ k. record {
    names = f.long.names k;
    marks = f.long.marks k;
    levels = l k;
    times = f.long.times k;
    line = f.long.line k;
    parents = length (p k);
  }

  lent : room_for i (lengths_of m) ≡ true → steps.Lent (width_in i) m.memory.names m.memory.marks m.memory.times m.memory.line (P i)
  unfolding lengths_of
  lent h = let q = room i (lengths_of m) h in record { for_names = q.names-room; for_marks = q.marks-room; for_times = q.times-room; for_line = q.line-room }

  tips-said : (st : State) → open_tips i true ≡ opened st → tips_all (walk_of i) (list_ids (width_in i) i.tips) empty_state ≡ st
  unfolding open_tips among
  tips-said st h = tips-all (walk_of i) [] (list_ids (width_in i) i.tips) empty_state st (λ y. refl) h

  first-state : (st : State) → open_walk i true ≡ opened st → st ≡ state_after i 0
  unfolding state_after state_of
  first-state st h = ap state_of (sym h)

  pub accepted-says : OpenSays i m o m'
  accepted-says =
      let q = opens i (room_for i (lengths_of m)) e in
      let t : tips_all (walk_of i) (list_ids (width_in i) i.tips) empty_state ≡ q.state = tips-said q.state (sym (open_roomy i true q.accepted refl) ∙ q.opens_true) in
      let g : Reads r m'.memory (shape_of i) q.state = subst (Reads r m'.memory (shape_of i)) t (f.filled q.accepted (lent q.has_room)) in
      record {
        answer = a.answer m'.memory (shape_of i) q.state g ∙ ap open_given (sym q.opens_as);
        refused_open = λ z h. never (sym h ∙ q.opens_as);
        accepted_open = λ z h.
            subst (λ (y : Record). Reads y m'.memory (shape_of i) (state_after i 0)) (sym a.same)
            (subst (Reads r m'.memory (shape_of i)) (first-state q.state q.opens_true) g);
        same-lengths = same;
        same-parents = p;
      }
