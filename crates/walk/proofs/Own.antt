-- Which refusals count as refused commits, told from the answer: a call that takes a commit leaves fewer struck than admitted, since that
-- commit was admitted and is not struck; painting's own refusal strikes all that waits, before any commit was used up, so as many are struck
-- as admitted. Assumes nothing.
use mathlib.Core.Path.{◌≡◌, refl, sym, ◌∙◌, ap, subst}
use Prim.Native.Nat.{ℕ, zero, suc, ◌+◌}
use mathlib.Core.Bool.{true, false, ◌||◌}
use mathlib.Core.List.{[]}
use native.Mathlib.Omega.{arith}
use Rattle.hash.proofs.Tests.{by_cases, clash}
use Rattle.walk.specs.declared.Refusal.{Refusal}
use Rattle.walk.specs.State.{State, ids, nobody, is_empty}
use Rattle.walk.specs.Opening.{Input, walk_of, Opening, opened, open_walk}
use Rattle.walk.specs.Painting.{Painting, Paint, stop, going, paint, both_marks}
use Rattle.walk.specs.Next.{end, refused, Answer, Step, step, take_next, outside, painted_with, next}
use Rattle.walk.specs.Calls.{state_of, state_after, answer_on, answer_at_call}
use Rattle.walk.specs.Sums.{uses, PaintingRefuses, PaintingsOwn, ToldApart, RefusedCommits, GivenOnce, RefusedPainting}
use Rattle.walk.proofs.Moves.{takes, moves, next-painted, next-first, first_plain, first-paint, first-stop}
use Rattle.walk.proofs.Outside.{outside_length}
use Rattle.walk.proofs.FirstCall.{paints}
use Rattle.walk.proofs.Tally.{Tally, moves-adds, takes-uses, stop-uses}
use Rattle.walk.proofs.Stays.{Ended, ended-next, stays-from}
use Rattle.walk.proofs.Whole.{open_fresh}

refused_in : {m n : Refusal} → refused m ≡ refused n → m ≡ n
refused_in e = cc

not-stop {ℓ} : {X : Type ℓ} {n : Refusal} {p : Paint} → going p ≡ stop n → X
not-stop e = let z : ◌≡◌ {A = ℕ} 0 1 = cc in absurd (omega arith)

counts : (i : Input) (k : ℕ) (n : Refusal) → uses (answer_at_call i k) ≡ 1 → (PaintingsOwn i k n → ⊥) → ToldApart i k n
counts i k n one f = record { commit = (λ u. f, λ u. one); own = (λ z. absurd (omega (arith, one, z)), λ o. absurd (f o)) }

counts-not : (i : Input) (k : ℕ) (n : Refusal) → uses (answer_at_call i k) ≡ 0 → PaintingsOwn i k n → ToldApart i k n
counts-not i k n none o = record { commit = (λ u. absurd (omega (arith, none, u)), λ f. absurd (f o)); own = (λ u. o, λ u. none) }

module _ (i : Input) (st : State) (opens : open_walk i true ≡ opened st) where
  answer-is : (k : ℕ) → answer_at_call i k ≡ (next (walk_of i) (state_after i k)).answer
  unfolding answer_at_call answer_on
  answer-is k = ap (λ (q : Opening). answer_on (walk_of i) (state_after i k) q) opens

  answer-by : (k : ℕ) (r : Step) → next (walk_of i) (state_after i k) ≡ r → answer_at_call i k ≡ r.answer
  answer-by k r e = answer-is k ∙ ap (λ (q : Step). q.answer) e

  first-fresh : ((state_after i 0).painted ≡ false) × Tally 0 (state_after i 0)
  unfolding state_after state_of
  first-fresh = let f = open_fresh i st opens in subst (λ (o : Opening). ((state_of o).painted ≡ false) × Tally 0 (state_of o)) (sym opens) (f.not-painted, f.tallied)

  -- how many commits were used up before call k
  tally-after : (k : ℕ) → (n : ℕ) × ((state_after i k).painted ≡ false → n ≡ 0) × Tally n (state_after i k)
  unfolding state_after
  tally-after zero = (0, (λ u. refl), first-fresh.1)
  tally-after (suc k) =
      let t = tally-after k in
      let a = moves-adds (walk_of i) t.0 t.1 (moves (walk_of i) (state_after i k)) t.2 in
      (t.0 + uses (next (walk_of i) (state_after i k)).answer, (λ u. clash (paints (walk_of i) (state_after i k)) u), a.then-tally)

  -- a call that takes from a state whose sum stands
  takes_one : (k : ℕ) (n : Refusal) (m : ℕ) (s : State) → next (walk_of i) (state_after i k) ≡ take_next (walk_of i) s → Tally m s → (answer_at_call i k).kind ≡ refused n → uses (answer_at_call i k) ≡ 1
  takes_one k n m s e t r =
      let a = answer-by k (take_next (walk_of i) s) e in
      ap uses a ∙ takes-uses (walk_of i) m (takes (walk_of i) s) t n (sym (ap (λ (q : Answer). q.kind) a) ∙ r)

  abbrev s₀ : State
  s₀ = state_after i 0

  stopped : (n : Refusal) → PaintingRefuses i n → next (walk_of i) s₀ ≡ step (refused n) [] (painted_with s₀ [] nobody)
  stopped n p = next-first (walk_of i) s₀ first-fresh.0 ∙ first-stop (walk_of i) s₀ n p.due p.ends

  after-painted : (k : ℕ) → (state_after i (suc k)).painted ≡ true
  unfolding state_after
  after-painted k = paints (walk_of i) (state_after i k)

  -- the call after painting's own refusal says end
  second-end : (n : Refusal) → PaintingRefuses i n → (answer_at_call i 1).kind ≡ end
  unfolding state_after step painted_with
  second-end n p =
      let e : Ended (next (walk_of i) s₀).state = subst (λ (r : Step). Ended r.state) (sym (stopped n p)) (record { is-painted = refl; is-empty = refl }) in
      ap (λ (q : Answer). q.kind) (answer-by 1 _ (ended-next (walk_of i) (next (walk_of i) s₀).state e))

  -- the first call: painting is not due, goes through, or is refused
  plain-told : (n : Refusal) → (answer_at_call i 0).kind ≡ refused n → (is_empty (walk_of i).hidden || is_empty s₀.queue) ≡ true → ToldApart i 0 n
  unfolding painted_with
  plain-told n r e =
      counts i 0 n
      (takes_one 0 n 0 (painted_with s₀ s₀.queue nobody) (next-first (walk_of i) s₀ first-fresh.0 ∙ first_plain (walk_of i) s₀ e) (omega (arith, first-fresh.1)) r)
      (λ o. clash e o.1.due)

  paint-told : (n : Refusal) → (answer_at_call i 0).kind ≡ refused n → (is_empty (walk_of i).hidden || is_empty s₀.queue) ≡ false
      → (p : Painting) → paint (walk_of i).world (walk_of i).fuel (ids s₀.queue) (walk_of i).hidden ≡ p → ToldApart i 0 n
  unfolding painted_with step
  paint-told n r d (stop m) e =
      let a = answer-by 0 _ (stopped m (record { due = d; ends = e })) in
      let same : m ≡ n = refused_in (sym (ap (λ (q : Answer). q.kind) a) ∙ r) in
      counts-not i 0 n (ap uses a ∙ stop-uses s₀ m first-fresh.1) (refl, record { due = d; ends = e ∙ ap stop same })
  paint-told n r d (going p) e =
      counts i 0 n
      (takes_one 0 n 0 (painted_with s₀ (outside (both_marks p) s₀.queue) (both_marks p)) (next-first (walk_of i) s₀ first-fresh.0 ∙ first-paint (walk_of i) s₀ p d e)
      (omega (arith, first-fresh.1, outside_length (both_marks p) s₀.queue)) r)
      (λ o. not-stop (sym e ∙ o.1.ends))

  told : (k : ℕ) (n : Refusal) → (answer_at_call i k).kind ≡ refused n → ToldApart i k n
  told zero n r =
      by_cases (is_empty (walk_of i).hidden || is_empty s₀.queue) (plain-told n r) (λ d. paint-told n r d (paint (walk_of i).world (walk_of i).fuel (ids s₀.queue) (walk_of i).hidden) refl)
  told (suc k) n r =
      let t = tally-after (suc k) in
      counts i (suc k) n (takes_one (suc k) n t.0 (state_after i (suc k)) (next-painted (walk_of i) (state_after i (suc k)) (after-painted k)) t.2 r) (λ o. absurd (omega (arith, o.0)))

  given-once : (n : Refusal) → PaintingRefuses i n → GivenOnce i n
  unfolding step painted_with
  given-once n p =
      let a = answer-by 0 _ (stopped n p) in
      record {
        given = ap (λ (q : Answer). q.kind) a;
        all-struck = ap (λ (q : Answer). q.struck) a ∙ omega (arith, first-fresh.1) ∙ sym (ap (λ (q : Answer). q.admitted) a);
        emptied = ap (λ (q : Answer). q.waiting) a;
        then-end = λ k. stays-from i 1 (suc k) (omega arith) (second-end n p);
      }

pub refused-commits : (i : Input) → RefusedCommits i
unfolding RefusedCommits
refused-commits i st o k n r = told i st o k n r

pub refused_painting : (i : Input) → RefusedPainting i
unfolding RefusedPainting
refused_painting i st o n p = given-once i st o n p
