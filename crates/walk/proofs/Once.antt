-- No commit is handed out twice, on any input: an id enters the queue only while it is not seen, and is seen from then on; so the ids that wait are
-- different, and those that were handed out are seen and do not wait.
-- Assumes nothing.
use Rattle.std.specs.Prelude.{None, Option, Some}
use mathlib.Core.Path.{◌≡◌, refl, subst}
use mathlib.Core.Logic.{⊎_elim}
use Prim.Native.Nat.{ℕ, zero, suc}
use mathlib.Core.Bool.{Bool, true, false, cond, ◌||◌}
use mathlib.Core.List.Memᴰ
use mathlib.Core.List.{List, [], ◌∷◌, ◌++◌, map}
use lib.IntN.{ℤ, pos}
use Rattle.hash.specs.Bytes.{Id}
use Rattle.walk.specs.declared.Refusal.{Refusal}
use Rattle.walk.specs.Settings.{goes_before, by_time, followed}
use Rattle.walk.specs.State.{Walk, State, add, ids, queued, enter, with_queue, nobody, waits, sees}
use Rattle.walk.specs.Opening.{Input, walk_of, list_ids, Opening, closed, opened, open_walk, width_in}
use Rattle.walk.specs.Painting.{both_marks}
use Rattle.walk.specs.Next.{Kind, end, refused, handed, Step, step, admits, visit, visit_all, dropped, back, with_seconds, queued_seconds, ending, kind_of, outside, painted_with, next}
use Rattle.walk.specs.Calls.{calls, shut_calls, answers_from, answers}
use Rattle.walk.specs.Reach.{Mem, NoDup, empty, more}
use Rattle.walk.specs.AnyInput.{handed_by, handed_ids, Once}
use Rattle.hash.proofs.Tests.{by_cases, clash, not_yes}
use Rattle.walk.proofs.Laws.{or_neither, add_self, add-keeps, add-cases}
use Rattle.walk.proofs.Queue.{queued-out, queued_nodup, nodup_tail, nodup_first}
use Rattle.walk.proofs.Open.{distinct-once}
use Rattle.walk.proofs.Moves.{Takes, nothing, absent, from-store, from_row, drops, Moves, later, unhidden, strikes, stops, moves}
use Rattle.walk.proofs.Tips.{open_keep}
use Rattle.walk.proofs.Outside.{outside-out, outside-once}

-- of a queue, the seen, and the ids that were handed out
pub record Held (q : List (Id × ℤ)) (seen : Id → Bool) (l : List Id) : Type 0 where
  pub once : NoDup (ids q)
  pub queue-seen : (x : Id) → Mem x (ids q) → seen x ≡ true
  pub out-seen : (x : Id) → Mem x l → seen x ≡ true
  pub apart : (x : Id) → Mem x l → Mem x (ids q) → ⊥
  pub out_once : NoDup l

abbrev pub HeldBy : State → List Id → Type 0
HeldBy st l = Held st.queue st.seen l

-- ---- visits

-- a new id enters the queue
pub enter-held : (v : Walk) (p : Id) (t : ℤ) (q : List (Id × ℤ)) (seen : Id → Bool) (l : List Id) → seen p ≡ false → Held q seen l → Held (enter v p t q) (add seen p) l
unfolding enter
enter-held v p t q seen l n h =
    let b = goes_before v.settings in
    let e : Id × ℤ = (p, cond (by_time v.settings) t (pos 0)) in
    record {
      once = queued_nodup b e q (λ k. clash (h.queue-seen p k) n) h.once;
      queue-seen = λ y k. ⊎_elim (λ j. rw j (add_self seen p)) (λ j. add-keeps seen p y (h.queue-seen y j)) (queued-out b e q y k);
      out-seen = λ y k. add-keeps seen p y (h.out-seen y k);
      apart = λ y k m. ⊎_elim (λ j. clash (h.out-seen p (rw j at k)) n) (h.apart y k) (queued-out b e q y m);
      out_once = h.out_once;
    }

-- an id is seen and does not wait
pub seen-held : (p : Id) (q : List (Id × ℤ)) (seen : Id → Bool) (l : List Id) → Held q seen l → Held q (add seen p) l
seen-held p q seen l h = record {
  once = h.once;
  queue-seen = λ y k. add-keeps seen p y (h.queue-seen y k);
  out-seen = λ y k. add-keeps seen p y (h.out-seen y k);
  apart = h.apart;
  out_once = h.out_once;
}

pub visit-held : (v : Walk) (st : State) (p : Id) (t : ℤ) (l : List Id) → HeldBy st l → HeldBy (visit v st p t) l
unfolding visit waits sees
visit-held v st p t l h =
    by_cases (st.frontier p || st.seen p)
    (λ e. rw e h)
    (λ e. by_cases (admits v p t)
    (λ a. rw (e, a) (enter-held v p t st.queue st.seen l (or_neither (st.frontier p) (st.seen p) e).1 h))
    (λ a. rw (e, a) (seen-held p st.queue st.seen l h)))

visit_all-held : (v : Walk) (ps : List (Id × ℤ)) (st : State) (l : List Id) → HeldBy st l → HeldBy (visit_all v st ps) l
unfolding visit_all
visit_all-held v [] st l h = h
visit_all-held v (p ∷ ps) st l h = visit_all-held v ps (visit v st p.0 p.1) l (visit-held v st p.0 p.1 l h)

-- ---- one commit is taken

pub out-held : (x : Id × ℤ) (q : List (Id × ℤ)) (seen : Id → Bool) (l : List Id) → Held (x ∷ q) seen l → Held q seen (x.0 ∷ l)
unfolding ids
out-held x q seen l h = record {
  once = nodup_tail h.once;
  queue-seen = λ y k. h.queue-seen y (Memᴰ.tail k);
  out-seen = λ y k. ⊎_elim (λ e. rw e (h.queue-seen x.0 (Memᴰ.head refl))) (h.out-seen y) (Memᴰ.cases_cons k);
  apart = λ y k m. ⊎_elim (λ e. nodup_first h.once (rw e at m)) (λ j. h.apart y j (Memᴰ.tail m)) (Memᴰ.cases_cons k);
  out_once = more (λ k. h.apart x.0 k (Memᴰ.head refl)) h.out_once;
}

fewer : (x : Id) (q : List (Id × ℤ)) (seen : Id → Bool) (l : List Id) → Held q seen (x ∷ l) → Held q seen l
fewer x q seen l h = record {
  once = h.once;
  queue-seen = h.queue-seen;
  out-seen = λ y k. h.out-seen y (Memᴰ.tail k);
  apart = λ y k. h.apart y (Memᴰ.tail k);
  out_once = nodup_tail h.out_once;
}

-- the commit goes back: the same ids wait
pub back-held : (v : Walk) (x : Id × ℤ) (q : List (Id × ℤ)) (seen : Id → Bool) (l : List Id) → Held (x ∷ q) seen l → Held (back v x q) seen l
unfolding back ids
back-held v x q seen l h = by_cases (by_time v.settings) (λ e. rw e again) (λ e. rw e h)
  where
    again : Held (queued (goes_before v.settings) x q) seen l
    again =
        let same : (y : Id) → Mem y (ids (queued (goes_before v.settings) x q)) → Mem y (x.0 ∷ ids q) =
        λ y k. ⊎_elim (λ j. Memᴰ.head j) (λ j. Memᴰ.tail j) (queued-out (goes_before v.settings) x q y k) in
        record {
          once = queued_nodup (goes_before v.settings) x q (nodup_first h.once) (nodup_tail h.once);
          queue-seen = λ y k. h.queue-seen y (same y k);
          out-seen = h.out-seen;
          apart = λ y k m. h.apart y k (same y m);
          out_once = h.out_once;
        }

-- what a step has to meet: the id that it hands out joins the others
abbrev pub StepHeld : Step → List Id → Type 0
StepHeld r l = HeldBy r.state (handed_by r.answer.kind ++ l)

kind-held : (n : Option Refusal) (x : Id) (generation : Option ℕ) (t : Option ℤ) (f : List Id) (st : State) (l : List Id) → HeldBy st (x ∷ l) → StepHeld (step (kind_of n (handed x generation t)) f st) l
unfolding kind_of handed_by step
kind-held None x generation t f st l h = h
kind-held (Some r) x generation t f st l h = fewer x st.queue st.seen l h

pub at-queue : {a q : List (Id × ℤ)} {seen : Id → Bool} {l : List Id} → a ≡ q → Held a seen l → Held q seen l
at-queue {seen = seen} {l = l} e h = subst (λ (q : List (Id × ℤ)). Held q seen l) e h

takes_held : (v : Walk) {st : State} {r : Step} → Takes v st r → (l : List Id) → HeldBy st l → StepHeld r l
unfolding step handed_by with_queue dropped kind_of
takes_held v (nothing e) l h = h
takes_held v {st} (absent x q e k) l h = fewer x.0 q st.seen l (out-held x q st.seen l (at-queue e h))
takes_held v {st} (from-store x q b e k) l h =
    kind-held (ending v.settings b) x.0 None (queued_seconds v x.1) (followed v.settings b.ids) (visit_all v (with_queue q st) (with_seconds v (followed v.settings b.ids))) l
    (visit_all-held v (with_seconds v (followed v.settings b.ids)) (with_queue q st) (x.0 ∷ l) (out-held x q st.seen l (at-queue e h)))
takes_held v {st} (from_row x q ps generation s e k) l h =
    kind-held None x.0 (Some generation) (queued_seconds v x.1) (map (λ p. p.0) (followed v.settings ps)) (visit_all v (with_queue q st) (followed v.settings ps)) l
    (visit_all-held v (followed v.settings ps) (with_queue q st) (x.0 ∷ l) (out-held x q st.seen l (at-queue e h)))
takes_held v {st} (drops x q e t) l h = takes_held v t l (back-held v x q st.seen l (at-queue e h))

-- ---- the first call

-- part of the queue stays
pub part_held : (st : State) (q : List (Id × ℤ)) (f : Id → Bool) (l : List Id) → NoDup (ids q) → ((x : Id) → Mem x (ids q) → Mem x (ids st.queue)) → HeldBy st l → HeldBy (painted_with st q f) l
unfolding painted_with
part_held st q f l d i h = record {
  once = d;
  queue-seen = λ y k. h.queue-seen y (i y k);
  out-seen = h.out-seen;
  apart = λ y k m. h.apart y k (i y m);
  out_once = h.out_once;
}

moves-held : (v : Walk) {st : State} {r : Step} → Moves v st r → (l : List Id) → HeldBy st l → StepHeld r l
unfolding step handed_by ids
moves-held v (later u t) l h = takes_held v t l h
moves-held v {st} (unhidden u t) l h = takes_held v t l (part_held st st.queue nobody l h.once (λ y k. k) h)
moves-held v {st} (strikes p u e t) l h =
    takes_held v t l (part_held st (outside (both_marks p) st.queue) (both_marks p) l (outside-once (both_marks p) st.queue h.once) (λ y k. (outside-out (both_marks p) st.queue y k).0) h)
moves-held v {st} (stops n u e) l h = part_held st [] nobody l empty (λ y k. absurd (Memᴰ.not-nil k)) h

pub next-held : (v : Walk) (st : State) (l : List Id) → HeldBy st l → StepHeld (next v st) l
next-held v st l h = moves-held v (moves v st) l h

-- ---- all calls

-- what comes out later is different, and was not handed out before
record Later (l out : List Id) : Type 0 where
  different : NoDup out
  new : (x : Id) → Mem x out → Mem x l → ⊥

later_on : (k : Kind) (l out : List Id) → NoDup (handed_by k ++ l) → Later (handed_by k ++ l) out → Later l (handed_by k ++ out)
unfolding handed_by
later_on end l out d r = r
later_on (refused m) l out d r = r
later_on (handed x generation t) l out d r = record {
  different = more (λ k. r.new x k (Memᴰ.head refl)) r.different;
  new = λ y k m. ⊎_elim (λ e. nodup_first d (rw e at m)) (λ j. r.new y j (Memᴰ.tail m)) (Memᴰ.cases_cons k);
}

calls_later : (v : Walk) (k : ℕ) (st : State) (l : List Id) → HeldBy st l → Later l (handed_ids (calls v k st))
unfolding calls handed_ids
calls_later v zero st l h = record { different = empty; new = λ x m. absurd (Memᴰ.not-nil m) }
calls_later v (suc k) st l h =
    let n = next-held v st l h in
    later_on (next v st).answer.kind l (handed_ids (calls v k (next v st).state)) n.out_once
    (calls_later v k (next v st).state (handed_by (next v st).answer.kind ++ l) n)

-- from a state that holds, whatever the calls meet
pub calls-once : (v : Walk) (k : ℕ) (st : State) (l : List Id) → HeldBy st l → NoDup (handed_ids (calls v k st))
calls-once v k st l h = (calls_later v k st l h).different

-- ---- from an opening

-- before the tips xs: they are different and none of them is seen
record Before (xs : List Id) (st : State) : Type 0 where
  held : HeldBy st []
  unlike : NoDup xs
  unseen : (x : Id) → Mem x xs → st.seen x ≡ true → ⊥

others : (x : Id) (xs : List Id) (seen : Id → Bool) → NoDup (x ∷ xs) → ((y : Id) → Mem y (x ∷ xs) → seen y ≡ true → ⊥) → (y : Id) → Mem y xs → add seen x y ≡ true → ⊥
others x xs seen d n y k e = ⊎_elim (λ j. nodup_first d (rw j at k)) (n y (Memᴰ.tail k)) (add-cases seen x y e)

tip_waits : (v : Walk) (x : Id) (xs : List Id) (st : State) (t : ℤ) → Before (x ∷ xs) st → Before xs (waits v st x t)
unfolding waits
tip_waits v x xs st t b = record {
  held = enter-held v x t st.queue st.seen [] (not_yes (b.unseen x (Memᴰ.head refl))) b.held;
  unlike = nodup_tail b.unlike;
  unseen = others x xs st.seen b.unlike b.unseen;
}

tip_sees : (x : Id) (xs : List Id) (st : State) → Before (x ∷ xs) st → Before xs (sees st x)
unfolding sees
tip_sees x xs st b = record {
  held = seen-held x st.queue st.seen [] b.held;
  unlike = nodup_tail b.unlike;
  unseen = others x xs st.seen b.unlike b.unseen;
}

pub open_held : (i : Input) (st : State) → open_walk i true ≡ opened st → HeldBy st []
unfolding ids
open_held i st e =
    (open_keep i Before (tip_waits (walk_of i)) tip_sees (record {
      held = record {
        once = empty;
        queue-seen = λ x k. absurd (Memᴰ.not-nil k);
        out-seen = λ x k. absurd (Memᴰ.not-nil k);
        apart = λ x k. absurd (Memᴰ.not-nil k);
        out_once = empty;
      };
      unlike = distinct-once (walk_of i).excluded [] (list_ids (width_in i) i.tips);
      unseen = λ x k e. clash e refl;
    }) st e).held

shut_none : (k : ℕ) → NoDup (handed_ids (shut_calls k))
unfolding shut_calls handed_ids handed_by
shut_none zero = empty
shut_none (suc k) = shut_none k

pub once : (i : Input) → Once i
unfolding Once answers answers_from
once i k = go (open_walk i true) refl
  where
    go : (o : Opening) → open_walk i true ≡ o → NoDup (handed_ids (answers_from (walk_of i) k o))
    go (closed n) e = shut_none k
    go (opened st) e = calls-once (walk_of i) k st [] (open_held i st e)
