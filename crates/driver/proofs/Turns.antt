-- Calls one after another, folded: after k turns the tally is that of k calls of the walk, and once an answer says end it is that of all.
-- Assumes nothing.
use mathlib.Core.Path.{◌≡◌, refl, sym, ◌∙◌, ap, subst}
use mathlib.Core.Logic.{◌⊎◌, inl, inr, ⊎_elim}
use Prim.Native.Nat.{ℕ, suc, ◌+◌, ◌*◌, ◌≤◌, ◌<◌}
use mathlib.Core.Bool.{Bool, true, false, cond}
use mathlib.Core.List.{List}
use native.Mathlib.Omega.{arith}
use lib.ListN.{length}
use Rattle.hash.specs.Bytes.{Id, width_of}
use Rattle.object.specs.Ids.{id_in}
use Rattle.hash.proofs.Bytes.{length_set_down}
use Rattle.hash.proofs.Tests.{clash}
use Rattle.walk.specs.declared.Outcome.{Outcome}
use Rattle.walk.specs.declared.Outcome.TheVariants.{Commit, End, Refused}
use Rattle.walk.specs.State.{State}
use Rattle.walk.specs.Opening.{Input, width_in, P, room_for, opened, open_walk}
use Rattle.walk.specs.Next.{Kind, end, refused, handed, Answer}
use Rattle.walk.specs.Calls.{state_after, answer_at_call, answers}
use Rattle.walk.specs.Given.{Given, given, outcome_of, id_of_kind, parents_given, calls_after}
use Rattle.opening.specs.Checks.{checked_by}
use Rattle.opening.proofs.Opened.{opens}
use Rattle.state.specs.Reads.{Reads}
use Rattle.state.specs.Shapes.{shape_of}
use Rattle.traverse.specs.declared.Out.{Out}
use Rattle.traverse.specs.Contract.{Files, Lent, input_with, lengths_of, NextSays}
use Rattle.driver.specs.declared.Driven.{Driven}
use Rattle.tally.specs.declared.Task.{Task}
use Rattle.tally.specs.declared.Task.TheVariants as tasks
use Rattle.tally.specs.declared.Tally.{Tally}
use Rattle.tally.specs.Tally.{step_of, ids_by, counts_by, halted, calls_left, Held, holding, stepped, Few}
use Rattle.tally.specs.Terms.{FewCounts}
use Rattle.driver.specs.Walked.{parents_left}
use Rattle.driver.specs.Says.{went_on, Made, Drove, CallsAll}
use Rattle.driver.proofs.OneMore.{answers-more, parents-more, fold_call}
use Rattle.driver.proofs.Ended.{made_all}
use Rattle.tally.proofs.Counting.{few-counts, long-counts}
use Rattle.tally.proofs.Few.{few_up, few-step}

-- ---- one call

module _ {task : Task} {embargoed terms : List ℕ} {i : Input} {h₀ : Held} {b₀ : List ℕ} {k : ℕ} {d : Driven} {m : Lent} {ids counts : List ℕ} (a : Made task embargoed terms i h₀ b₀ k d m ids counts) (o : Out) (g : o.answer ≡ given (answer_at_call i k)) where
  says : o.answer.outcome ≡ outcome_of (answer_at_call i k).kind
  unfolding given
  says = ap (λ (q : Given). q.outcome) g

  names-id : o.answer.info.id ≡ id_of_kind (answer_at_call i k).kind
  unfolding given
  names-id = ap (λ (q : Given). q.info.id) g

  -- its answer is folded, and the tally is that of one call more
  made-next : {d' : Driven} {m' : Lent} {ids' counts' : List ℕ} {t : Tally} → m'.parents ≡ parents_given (answer_at_call i k) m.parents → Reads o.record m'.memory (shape_of i) (state_after i (suc k))
      → t ≡ step_of (width_in i) task embargoed terms i.store d.tally o.answer.outcome o.answer.info.id → d' ≡ went_on d t o.record
      → ids' ≡ ids_by (width_in i) task ids d.tally.commits o.answer.outcome o.answer.info.id
      → counts' ≡ counts_by (width_in i) task terms i.store counts o.answer.outcome o.answer.info.id → Made task embargoed terms i h₀ b₀ (suc k) d' m' ids' counts'
  made-next {d'} {m'} {ids'} {counts'} {t} p r q c w v =
      let s : List ℕ = i.store in
      let x : Kind = (answer_at_call i k).kind in
      let step : Outcome → Id → Held = λ u y. holding (step_of (width_in i) task embargoed terms s d.tally u y) (ids_by (width_in i) task ids d.tally.commits u y) (counts_by (width_in i) task terms s counts u y) in
      let one : holding d'.tally ids' counts' ≡ step o.answer.outcome o.answer.info.id = λ j. holding ((ap (λ (z : Driven). z.tally) c ∙ q) j) (w j) (v j) in
      let two : step o.answer.outcome o.answer.info.id ≡ stepped (width_in i) task embargoed terms s (holding d.tally ids counts) x = λ j. step (says j) (names-id j) in
      record {
        accepted = ap (λ (z : Driven). z.outcome) c ∙ a.accepted;
        held = one ∙ two ∙ ap (λ (h : Held). stepped (width_in i) task embargoed terms s h x) a.held ∙ sym (fold_call (width_in i) task embargoed terms s h₀ i k);
        parents =
            p
            ∙ ap (parents_given (answer_at_call i k)) a.parents
            ∙ sym (ap (λ (l : List Answer). parents_left l b₀) (answers-more i k) ∙ parents-more (answers i k) (answer_at_call i k) b₀);
        reads = subst (λ (z : Driven). Reads z.record m'.memory (shape_of i) (state_after i (suc k))) (sym c) r;
      }

-- ---- all calls

-- calls are left to P + 2, or none since the last answer said end, or none since the task is done
abbrev Rest : Task → Input → Tally → ℕ → ℕ → Type 0
Rest task i t k left = (k + left ≡ P i + 2) ⊎ (((left ≡ 0) × (j : ℕ) × (k ≡ suc j) × ((answer_at_call i j).kind ≡ end)) ⊎ ((left ≡ 0) × (halted task t ≡ true)))

abbrev Along : Task → List ℕ → List ℕ → Input → Held → List ℕ → Driven → Lent → List ℕ → List ℕ → ℕ → Type 0
Along task embargoed terms i h₀ b₀ d m ids counts left = (k : ℕ) × Made task embargoed terms i h₀ b₀ k d m ids counts × (k ≤ P i + 2) × Rest task i d.tally k left

-- of n calls at most, `left` may still be made
pub record Turns (task : Task) (embargoed terms : List ℕ) (f : Files) (n : ℕ) (d₀ : Driven) (m₀ : Lent) (ids₀ counts₀ : List ℕ) (d : Driven) (m : Lent) (ids counts : List ℕ) (left : ℕ) : Type 0 where
  pub spent : ℕ
  pub low : spent + left ≤ n
  pub few : Few spent d.tally
  pub same-lengths : lengths_of m ≡ lengths_of m₀
  pub few_in : FewCounts spent counts
  pub long-ids : length ids ≡ length ids₀
  pub long_in : length counts ≡ length counts₀
  pub no_call : n ≡ 0 → (d ≡ d₀) × (m ≡ m₀) × (ids ≡ ids₀) × (counts ≡ counts₀)
  pub along : (tips : List ℕ) (st : State) → open_walk (input_with f tips) (room_for (input_with f tips) (lengths_of m₀)) ≡ opened st → n ≡ P (input_with f tips) + 2
      → (h₀ : Held) → Made task embargoed terms (input_with f tips) h₀ m₀.parents 0 d₀ m₀ ids₀ counts₀ → Along task embargoed terms (input_with f tips) h₀ m₀.parents d m ids counts left

pub turns-start : {task : Task} {embargoed terms : List ℕ} {f : Files} {n : ℕ} {d : Driven} {m : Lent} {ids counts : List ℕ} → Few 0 d.tally → FewCounts 0 counts → Turns task embargoed terms f n d m ids counts d m ids counts n
turns-start {n = n} h g = record {
  spent = 0;
  low = omega arith;
  few = h;
  few_in = g;
  long_in = refl;
  same-lengths = refl;
  long-ids = refl;
  no_call = λ z. (refl, refl, refl, refl);
  along = λ tips st e z h₀ a. (0, a, omega arith, inl (omega (arith, z)));
}

after-low : (n : ℕ) (o : Outcome) → 0 < n → suc (calls_after n o) ≤ n
after-low n Commit h = omega arith
after-low n End h = omega arith
after-low n (Refused r) h = omega arith

pub left-low : (task : Task) (t : Tally) (n : ℕ) (o : Outcome) → 0 < n → suc (calls_left task t n o) ≤ n
left-low task t n o h = go (halted task t)
  where
    go : (b : Bool) → suc (cond b 0 (calls_after n o)) ≤ n
    go true = omega arith
    go false = after-low n o h

ids-long : (w : ℕ) (task : Task) (b : List ℕ) (n : ℕ) (o : Outcome) (x : Id) → length (ids_by w task b n o x) ≡ length b
ids-long w tasks.Ids b n Commit x = length_set_down b (w * n) (id_in w x)
ids-long w tasks.Ids b n End x = refl
ids-long w tasks.Ids b n (Refused r) x = refl
ids-long w tasks.Feed b n o x = refl
ids-long w tasks.Terms b n o x = refl

-- call k is made: calls are left to P + 2, or it said end, or the task is done
call-on : (i : Input) (k left : ℕ) (q : Kind) → (answer_at_call i k).kind ≡ q → k + left ≡ P i + 2 → 0 < left
    → (suc k + calls_after left (outcome_of q) ≡ P i + 2) ⊎ ((calls_after left (outcome_of q) ≡ 0) × (j : ℕ) × (suc k ≡ suc j) × ((answer_at_call i j).kind ≡ end))
call-on i k left end e h g = inr (refl, k, refl, e)
call-on i k left (refused r) e h g = inl (omega arith)
call-on i k left (handed x a t) e h g = inl (omega arith)

left-on : (task : Task) (i : Input) (t : Tally) (k left : ℕ) → k + left ≡ P i + 2 → 0 < left → Rest task i t (suc k) (calls_left task t left (outcome_of (answer_at_call i k).kind))
left-on task i t k left h g = go (halted task t) refl
  where
    go : (b : Bool) → halted task t ≡ b
        → (suc k + cond b 0 (calls_after left (outcome_of (answer_at_call i k).kind)) ≡ P i + 2)
        ⊎ (((cond b 0 (calls_after left (outcome_of (answer_at_call i k).kind)) ≡ 0) × (j : ℕ) × (suc k ≡ suc j) × ((answer_at_call i j).kind ≡ end))
        ⊎ ((cond b 0 (calls_after left (outcome_of (answer_at_call i k).kind)) ≡ 0) × (halted task t ≡ true)))
    go true e = inr (inr (refl, e))
    go false e = ⊎_elim (λ y. inl y) (λ y. inr (inl y)) (call-on i k left (answer_at_call i k).kind refl h g)

module _ {task : Task} {embargoed terms : List ℕ} {f : Files} {n : ℕ} {d₀ : Driven} {m₀ : Lent} {ids₀ counts₀ : List ℕ} {d : Driven} {m : Lent} {ids counts : List ℕ} {left : ℕ} (t : Turns task embargoed terms f n d₀ m₀ ids₀ counts₀ d m ids counts left) where
  pub turns_next : {d' : Driven} {m' : Lent} {ids' counts' : List ℕ} {left' : ℕ} {y : Tally} (o : Out) → 0 < left → NextSays f d.record m o m'
      → y ≡ step_of (width_of f.settings.kind) task embargoed terms f.store d.tally o.answer.outcome o.answer.info.id → d' ≡ went_on d y o.record
      → ids' ≡ ids_by (width_of f.settings.kind) task ids d.tally.commits o.answer.outcome o.answer.info.id
      → counts' ≡ counts_by (width_of f.settings.kind) task terms f.store counts o.answer.outcome o.answer.info.id → left' ≡ calls_left task y left o.answer.outcome
      → Turns task embargoed terms f n d₀ m₀ ids₀ counts₀ d' m' ids' counts' left'
  turns_next {d'} {m'} {ids'} {counts'} {left'} {y} o h s q c w x u =
      let a : Outcome = o.answer.outcome in
      record {
        spent = suc t.spent;
        low = omega (arith, u, left-low task y left a h, t.low);
        few = subst (Few (suc t.spent)) (sym (ap (λ (z : Driven). z.tally) c ∙ q)) (few-step (width_of f.settings.kind) task embargoed terms f.store t.spent d.tally a o.answer.info.id t.few);
        few_in = subst (FewCounts (suc t.spent)) (sym x) (few-counts (width_of f.settings.kind) task terms f.store t.spent counts a o.answer.info.id t.few_in);
        long_in = ap length x ∙ long-counts (width_of f.settings.kind) task terms f.store counts a o.answer.info.id ∙ t.long_in;
        same-lengths = s.same-lengths ∙ t.same-lengths;
        long-ids = ap length w ∙ ids-long (width_of f.settings.kind) task ids d.tally.commits a o.answer.info.id ∙ t.long-ids;
        no_call = λ z. absurd (omega (arith, z, h, t.low));
        along = λ tips st e z h₀ b.
            let l = t.along tips st e z h₀ b in
            ⊎_elim
            (λ v. went tips st e h₀ l.0 l.1 l.2 v)
            (λ r. absurd (⊎_elim (λ v. omega (arith, h, v.0)) (λ v. omega (arith, h, v.0)) r))
            l.3;
      }
    where
      went : (tips : List ℕ) (st : State) → open_walk (input_with f tips) (room_for (input_with f tips) (lengths_of m₀)) ≡ opened st
          → (h₀ : Held) (k : ℕ) → Made task embargoed terms (input_with f tips) h₀ m₀.parents k d m ids counts → k ≤ P (input_with f tips) + 2 → k + left ≡ P (input_with f tips) + 2
          → Along task embargoed terms (input_with f tips) h₀ m₀.parents d' m' ids' counts' left'
      went tips st e h₀ k b l g =
          let i : Input = input_with f tips in
          let z = s.opened-call tips k st (ap (λ (v : _). open_walk i (room_for i v)) t.same-lengths ∙ e) b.reads in
          let v : calls_left task y left (outcome_of (answer_at_call i k).kind) ≡ left' = sym (u ∙ ap (calls_left task y left) (says b o z.0)) in (
            suc k,
            made-next b o z.0 z.1 z.2 q c w x,
            omega (arith, g, h),
            subst (λ (r : Tally). Rest task i r (suc k) left') (sym (ap (λ (r : Driven). r.tally) c)) (subst (Rest task i y (suc k)) v (left-on task i y k left g h)),
          )

  pub turns-end : left ≤ 0 → CallsAll task embargoed terms f n d₀ m₀ ids₀ counts₀ d m ids counts
  turns-end h = record {
    no_call = t.no_call;
    all-calls = λ tips st e z h₀ b.
        let i : Input = input_with f tips in
        let o = opens i (room_for i (lengths_of m₀)) (sym (ap checked_by e)) in
        let a = t.along tips st e z h₀ b in
        ⊎_elim
        (λ x. record { calls = a.0; few = a.2; made = a.1; whole = λ g. omega (arith, x, h) })
        (λ r. ⊎_elim
        (λ x. record {
          calls = P i + 2;
          few = omega arith;
          made = made_all i o.state o.opens_true x.1 (P i + 2) (omega (arith, x.2, a.2)) x.3 (subst (λ (k : ℕ). Made task embargoed terms i h₀ m₀.parents k d m ids counts) x.2 a.1);
          whole = λ g. refl;
        })
        (λ x. record { calls = a.0; few = a.2; made = a.1; whole = λ g. clash x.1 g })
        r)
        a.3;
    few = few_up t.spent n d.tally (omega (arith, t.low)) t.few;
    same-lengths = t.same-lengths;
  }
