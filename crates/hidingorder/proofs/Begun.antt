-- The state after the first call's painting, under the premises: the tips that wait outside the frontier, in their order, and nothing handed out yet.
-- Assumes nothing.
use mathlib.Core.Path.{◌≡◌, refl, sym, ◌∙◌, ap, subst}
use mathlib.Core.Logic.{inl, ⊎_elim}
use Prim.Native.Nat.{ℕ, ◌+◌, ◌*◌, ◌≤◌}
use mathlib.Core.Bool.{Bool, true, false, cond, ◌||◌}
use mathlib.Core.List.Memᴰ
use mathlib.Core.List.{List, []}
use native.Mathlib.Omega.{arith}
use lib.ListN.{length}
use lib.IntN.{ℤ, pos}
use Rattle.hash.specs.Bytes.{Id, among}
use Rattle.hash.proofs.Tests.{by_cases, clash}
use Rattle.walk.specs.Settings.{by_time, goes_before}
use Rattle.walk.specs.State.{Walk, State, ids, enter, nobody, is_empty, empty_state, sees, waits}
use Rattle.walk.specs.Opening.{distinct, opened, tips_in}
use Rattle.walk.specs.Next.{outside, painted_with, take_next, next}
use Rattle.walk.specs.Calls.{calls}
use Rattle.walk.specs.Reach.{Mem, links}
use Rattle.walk.specs.Demand.{Region, Premises, AdmittedTip, Hidden, Hands}
use Rattle.walk.proofs.Laws.{Coherent}
use Rattle.walk.proofs.Queue.{Away}
use Rattle.walk.proofs.Take.{region-tip}
use Rattle.walk.proofs.Outside.{outside-nobody, length_ids}
use Rattle.walk.proofs.Moves.{next-painted, next-first, first_plain, first-paint, same-calls}
use Rattle.walk.proofs.Open.{Entered, tips-opened, distinct-out, distinct-in, distinct-once, distinct-length}
use Rattle.walk.proofs.Tips.{tips-keep}
use Rattle.walk.proofs.Third.{queue-tip, walked, plain-parts, paint-parts, done-paint, front}
use Rattle.hidingorder.proofs.Ordered.{ranks, Ordered, queued-ordered}
use Rattle.hidingorder.proofs.Going.{Going}

among_nil : (x : Id) → among x [] ≡ false
unfolding among
among_nil x = refl

pub opened-same : {a b : State} → opened a ≡ opened b → a ≡ b
opened-same e = cc

-- the tips enter in order
pub tips_ordered : (v : Walk) (xs : List Id) (st : State) → tips_in v xs empty_state ≡ opened st → Ordered (goes_before v.settings) st.queue
unfolding waits sees enter
tips_ordered v xs st o =
    tips-keep v (λ l q. Ordered (goes_before v.settings) q.queue)
    (λ x l q t k. queued-ordered (goes_before v.settings) (ranks v.settings) (x, cond (by_time v.settings) t (pos 0)) q.queue k)
    (λ x l q k. k)
    xs empty_state st tt o

module _ (v : Walk) (tips : List Id) (pre : Premises v tips) (co : Coherent v.world) where
  -- a walk as its first call finds it; front is what its painting leaves as the frontier
  pub record Begun (st : State) : Type 0 where
    pub front : Id → Bool
    pub apart : (x : Id) → Away v tips front x → Hidden v tips x → ⊥
    pub hidden-only : (x : Id) → front x ≡ true → Hidden v tips x
    pub of-tips : (x : Id) → Mem x (ids st.queue) → AdmittedTip v tips x
    pub goes_on : (l : List Id) → ((k : ℕ) → Hands l (calls v k st)) → Going v tips pre co front (painted_with st (outside front st.queue) front) [] l

  module _ (us : List Id) (within : (x p : Id) → Region v tips x → Mem p (links v.world x) → Mem p us) (st : State) (done : List Id) (i : Entered v tips st done)
      (of-tips : (x : Id) → Mem x done → Mem x tips × (among x v.excluded ≡ false))
      (all-tips : (x : Id) → Mem x tips → among x v.excluded ≡ false → Mem x done) where
    -- from there the calls hand out what they handed out
    goes-from : (front : Id → Bool) → next v st ≡ take_next v (painted_with st (outside front st.queue) front)
        → (l : List Id) → ((k : ℕ) → Hands l (calls v k st)) → Going v tips pre co front (painted_with st (outside front st.queue) front) [] l
    unfolding painted_with
    goes-from front e l f = record {
      is-painted = refl;
      walked = walked v tips pre co us within st done i of-tips all-tips front;
      closed = λ x k. absurd (Memᴰ.not-nil k);
      hands-all = λ k. subst (Hands l) (same-calls v st (painted_with st (outside front st.queue) front) (e ∙ sym (next-painted v (painted_with st (outside front st.queue) front) refl)) k) (f k);
    }

    -- nothing is painted
    plainly : (is_empty v.hidden || is_empty st.queue) ≡ true → Begun st
    plainly e = record {
      front = nobody;
      apart = (plain-parts v tips pre co us within st done i of-tips all-tips e).apart;
      hidden-only = λ x k. clash k refl;
      of-tips = queue-tip v tips pre co us within st done i of-tips all-tips;
      goes_on = goes-from nobody
          (next-first v st i.not-painted ∙ first_plain v st e ∙ ap (λ (l : List (Id × ℤ)). take_next v (painted_with st l nobody)) (sym (outside-nobody st.queue)));
    }

    -- painting
    painting : 3 * length us + length (ids st.queue) + length v.hidden ≤ v.fuel → (is_empty v.hidden || is_empty st.queue) ≡ false → Begun st
    painting enough e =
        let p = done-paint v tips pre co us within st done i of-tips all-tips enough in
        record {
          front = front v tips pre co us within st done i of-tips all-tips enough;
          apart = (paint-parts v tips pre co us within st done i of-tips all-tips enough).apart;
          hidden-only = p.2.hidden-only;
          of-tips = queue-tip v tips pre co us within st done i of-tips all-tips;
          goes_on = goes-from (front v tips pre co us within st done i of-tips all-tips enough) (next-first v st i.not-painted ∙ first-paint v st p.0 e p.1);
        }

  -- from an opening
  pub begins : (us : List Id) (within : (x p : Id) → Region v tips x → Mem p (links v.world x) → Mem p us) → 3 * length us + length tips + length v.hidden ≤ v.fuel
      → (st : State) → tips_in v (distinct [] v.excluded tips) empty_state ≡ opened st → Begun st
  begins us within enough st e =
      let xs : List Id = distinct [] v.excluded tips in
      let o = tips-opened v tips pre co xs (distinct-once v.excluded [] tips) (λ x k. region-tip v tips pre co x (distinct-out v.excluded [] tips x k).0) in
      let i : Entered v tips st o.done' = subst (λ (z : State). Entered v tips z o.done') (opened-same (sym o.is ∙ e)) o.entered in
      let of-tips : (x : Id) → Mem x o.done' → Mem x tips × (among x v.excluded ≡ false) =
      λ x k. ⊎_elim (λ j. let t = distinct-out v.excluded [] tips x j in (t.0, t.1)) (λ j. absurd (Memᴰ.not-nil j)) (o.from-lists x k) in
      let all-tips : (x : Id) → Mem x tips → among x v.excluded ≡ false → Mem x o.done' =
      λ x k b. o.to-done x (inl (distinct-in v.excluded [] tips x k b (among_nil x))) in
      by_cases (is_empty v.hidden || is_empty st.queue)
      (plainly us within st o.done' i of-tips all-tips)
      (painting us within st o.done' i of-tips all-tips (omega (arith, length_ids st.queue, i.no_longer, o.as_long, distinct-length v.excluded [] tips)))
