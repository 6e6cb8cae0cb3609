-- A call is refused by 9, 10 or 11 alone: a commit is absent, its header ends badly or in too many parents, or painting stops at one that
-- cannot be read, and reading gives no other refusal. Assumes nothing.
use Rattle.std.specs.Prelude.{None, Option, Some}
use mathlib.Core.Path.{sym, ◌∙◌, ap, subst}
use Prim.Native.Nat.{ℕ, zero, suc}
use mathlib.Core.Bool.{Bool, true, false, cond, not, ◌&&◌}
use mathlib.Core.List.{List, [], ◌∷◌}
use native.Mathlib.Omega.{arith}
use lib.IntN.{ℤ}
use Rattle.hash.specs.Bytes.{Id, if_some}
use Rattle.object.specs.Header.{Header}
use Rattle.walk.specs.declared.Settings.{Settings}
use Rattle.walk.specs.declared.Refusal.TheVariants.{CommitUnreadable, TooManyParents}
use Rattle.walk.specs.Settings.{only_first}
use Rattle.walk.specs.Lookup.{World, Row, no_row, corrupt, row, Read, fail, good, from_store, read_row, read, parents_of, no_generation, Pair}
use Rattle.walk.specs.State.{Walk, State, is_empty}
use Rattle.walk.specs.Opening.{Input, walk_of, Opening}
use Rattle.walk.specs.Painting.{Paint, Painting, stop, going, then, Marks, mark_read, mark, mark_all, lacks, pass, passed, fresh, with_pending, turn, turns, sorted, unpainted, VISIBLE, HIDDEN, paint}
use Rattle.walk.specs.Next.{Kind, end, refused, handed, Step, step, ending, kind_of}
use Rattle.walk.specs.Calls.{state_after, answer_on, answer_at_call}
use Rattle.walk.specs.AnyInput.{OfCall, RefusedByCall}
use Rattle.walk.proofs.Laws.{cond_both}
use Rattle.walk.proofs.Moves.{Takes, nothing, absent, from-store, from_row, drops, Moves, later, unhidden, strikes, stops, moves}

-- ---- what reading refuses

abbrev FailsAs : Read → Type 0
FailsAs (fail n) = OfCall n
FailsAs (good ps p) = Unit {0}

store_fails : (o : Option Header) → FailsAs (from_store o)
unfolding from_store
store_fails None = (omega arith, omega arith)
store_fails (Some h) = go h.tree h.crowded h.author h.seconds
  where
    go : (t c a : Bool) (s : Option ℤ)
        → FailsAs (cond t (cond c (fail TooManyParents) (cond a (if_some s (fail CommitUnreadable) (λ u. good h.ids (record { generation = no_generation; time = u }))) (fail CommitUnreadable))) (fail CommitUnreadable))
    go true true a s = (omega arith, omega arith)
    go true false true None = (omega arith, omega arith)
    go true false true (Some u) = tt
    go true false false s = (omega arith, omega arith)
    go false c a s = (omega arith, omega arith)

row_fails : (w : World) (x : Id) (r : Row) → FailsAs (read_row w x r)
unfolding read_row
row_fails w x no_row = store_fails (w.store x)
row_fails w x corrupt = (omega arith, omega arith)
row_fails w x (row ps l s) = tt

-- ---- where painting stops

abbrev StopsAs : Painting → Type 0
StopsAs (stop n) = OfCall n
StopsAs (going st) = Unit {0}

then_stops : (p : Painting) (f : Paint → Painting) → StopsAs p → ((st : Paint) → StopsAs (f st)) → StopsAs (then p f)
unfolding then
then_stops (stop n) f s g = s
then_stops (going st) f s g = g st

mark_stops : (w : World) (m : Marks) (x : Id) (st : Paint) → StopsAs (mark w m x st)
unfolding mark mark_read read
mark_stops w m x st = go (read_row w x (w.graph x)) (row_fails w x (w.graph x))
  where
    go : (r : Read) → FailsAs r → StopsAs (mark_read m x st r)
    go (fail n) f = f
    go (good ps p) f = tt

mark_all_stops : (w : World) (m : Marks) (xs : List Id) (st : Paint) → StopsAs (mark_all w m xs st)
unfolding mark_all
mark_all_stops w m [] st = tt
mark_all_stops w m (x ∷ xs) st = then_stops (mark w m x st) (λ s. mark_all w m xs s) (mark_stops w m x st) (λ s. mark_all_stops w m xs s)

pass_stops : (w : World) (m : Marks) (xs : List Id) (st : Paint) → StopsAs (pass w m xs st)
unfolding pass
pass_stops w m [] st = tt
pass_stops w m (x ∷ xs) st =
    cond_both StopsAs (lacks m x st) (then (mark w m x st) (λ s. pass w m xs s)) (pass w m xs st)
    (then_stops (mark w m x st) (λ s. pass w m xs s) (mark_stops w m x st) (λ s. pass_stops w m xs s)) (pass_stops w m xs st)

turn_stops : (w : World) (st : Paint) (q : List (Pair × Id)) → StopsAs (turn w st q)
unfolding turn
turn_stops w st [] = tt
turn_stops w st (q ∷ qs) = pass_stops w (passed st q.1) (parents_of (read w q.1)) (with_pending qs st)

turns-stop : (w : World) (k : ℕ) (st : Paint) → StopsAs (turns w k st)
unfolding turns
turns-stop w zero st = tt
turns-stop w (suc k) st =
    cond_both StopsAs (fresh st.stale st.pending) (then (turn w st st.pending) (λ s. turns w k s)) (going st)
    (then_stops (turn w st st.pending) (λ s. turns w k s) (turn_stops w st st.pending) (λ s. turns-stop w k s)) tt

paint_stops : (w : World) (k : ℕ) (waiting hidden : List Id) → StopsAs (paint w k waiting hidden)
unfolding paint
paint_stops w k waiting hidden =
    then_stops (mark_all w VISIBLE (sorted waiting) unpainted) _ (mark_all_stops w VISIBLE (sorted waiting) unpainted)
    (λ st. then_stops (mark_all w HIDDEN hidden st) _ (mark_all_stops w HIDDEN hidden st) (λ s. turns-stop w k s))

-- ---- what a call answers

abbrev AnswersAs : Kind → Type 0
AnswersAs end = Unit {0}
AnswersAs (refused n) = OfCall n
AnswersAs (handed x g t) = Unit {0}

header-answers : (s : Settings) (h : Header) (x : Id) (g : Option ℕ) (t : Option ℤ) → AnswersAs (kind_of (ending s h) (handed x g t))
unfolding ending kind_of
header-answers s h x g t = go h.tree (only_first s && not (is_empty h.ids)) h.crowded h.author
  where
    go : (a b c d : Bool) → AnswersAs (kind_of (cond a (cond b None (cond c (Some TooManyParents) (cond d None (Some CommitUnreadable)))) (Some CommitUnreadable)) (handed x g t))
    go true true c d = tt
    go true false true d = (omega arith, omega arith)
    go true false false true = tt
    go true false false false = (omega arith, omega arith)
    go false b c d = (omega arith, omega arith)

takes_answers : (v : Walk) {st : State} {r : Step} → Takes v st r → AnswersAs r.answer.kind
unfolding step
takes_answers v (nothing e) = tt
takes_answers v (absent x q e k) = (omega arith, omega arith)
takes_answers v (from-store x q h e k) = header-answers v.settings h x.0 None _
takes_answers v (from_row x q ps l s e k) = tt
takes_answers v (drops x q e t) = takes_answers v t

moves-answers : (v : Walk) {st : State} {r : Step} → Moves v st r → AnswersAs r.answer.kind
unfolding step
moves-answers v (later u t) = takes_answers v t
moves-answers v (unhidden u t) = takes_answers v t
moves-answers v (strikes p u e t) = takes_answers v t
moves-answers v (stops n u e) = subst StopsAs e (paint_stops v.world v.fuel _ v.hidden)

pub refused_by-call : (i : Input) → RefusedByCall i
unfolding RefusedByCall answer_at_call answer_on
refused_by-call i st o k r e =
    subst AnswersAs (sym (ap (λ (q : Opening). (answer_on (walk_of i) (state_after i k) q).kind) o) ∙ e) (moves-answers (walk_of i) (moves (walk_of i) (state_after i k)))
