-- What `drive` comes to: after a refused opening no call is made; after an accepted one all that the task can need. Assumes nothing.
use Rattle.std.specs.Prelude.{Err, Ok, Result}
use mathlib.Core.Path.{◌≡◌, refl, sym, ◌∙◌, ap, subst}
use Prim.Native.Nat.{ℕ, ◌+◌, ◌≤◌, ◌<◌}
use mathlib.Core.Bool.{true}
use mathlib.Core.List.{List}
use native.Mathlib.Omega.{arith}
use lib.ListN.{length}
use Rattle.odb.specs.Store.{store_is_ok}
use Rattle.walk.specs.declared.Refusal.{Refusal}
use Rattle.walk.specs.declared.OpenAnswer.{OpenAnswer}
use Rattle.walk.specs.State.{State}
use Rattle.walk.specs.Opening.{Input, width_in, P, room_for, Opening, closed, opened, open_walk}
use Rattle.walk.specs.Next.{Answer}
use Rattle.walk.specs.Calls.{answers}
use Rattle.walk.specs.Given.{open_given}
use Rattle.opening.specs.Checks.{checked_by}
use Rattle.opening.proofs.Input.{passes, places-few}
use Rattle.opening.proofs.Opened.{opens}
use Rattle.state.specs.declared.Record.{Record}
use Rattle.state.specs.Reads.{closed_record}
use Rattle.traverse.specs.declared.Opened.{Opened}
use Rattle.traverse.specs.Contract.{Lent, lengths_of, OpenSays}
use Rattle.traverse.specs.Demand.{files_of}
use Rattle.driver.specs.declared.Driven.{Driven}
use Rattle.tally.specs.declared.Task.{Task}
use Rattle.tally.specs.Tally.{no_tally, Few, Held, holding}
use Rattle.tally.specs.Terms.{good_part, zeros}
use Rattle.driver.specs.Walked.{parents_left, most_calls}
use Rattle.driver.specs.Says.{driven, before_calls, Made, Drove, Drives, CallsAll}
use Rattle.tally.proofs.Few.{few_up}
use Rattle.driver.proofs.OneMore.{no-answers, fold_none}

-- nothing is tallied before any call
pub none-few : Few 0 no_tally
none-few = record {
  commits = omega arith;
  refused = omega arith;
  feeds = record {
    both = omega arith;
    cone = omega arith;
    bed = omega arith;
    neither = omega arith;
    cone-sum = omega arith;
    bed-sum = omega arith;
    paired-cone = omega arith;
    paired-bed = omega arith;
  };
  outside = omega arith;
}

module _ {i : Input} {m : Lent} {o : Opened} {m₁ : Lent} (s : OpenSays i m o m₁) where
  refused-cap : (r : Refusal) → open_walk i (room_for i (lengths_of m)) ≡ closed r → o.record.queue.cap ≡ 0
  unfolding closed_record
  refused-cap r e = ap (λ (q : Record). q.queue.cap) (s.refused_open r e).0

  opened-cap : (st : State) → open_walk i (room_for i (lengths_of m)) ≡ opened st → o.record.queue.cap ≡ P i
  opened-cap st e = (s.accepted_open st e).cap

  -- the number of slots is small
  pub few-slots : o.record.queue.cap ≤ 1048576
  few-slots = go (open_walk i (room_for i (lengths_of m))) refl
    where
      go : (w : Opening) → open_walk i (room_for i (lengths_of m)) ≡ w → o.record.queue.cap ≤ 1048576
      go (closed r) e = omega (arith, refused-cap r e)
      go (opened st) e = omega (arith, opened-cap st e, places-few i (opens i (room_for i (lengths_of m)) (sym (ap checked_by e))).accepted)

  refused_as : (r : Refusal) → open_walk i (room_for i (lengths_of m)) ≡ closed r → o.answer.outcome ≡ Err r
  unfolding open_given
  refused_as r e = ap (λ (a : OpenAnswer). a.outcome) (s.answer ∙ ap open_given e)

  accepted-as : (st : State) → open_walk i (room_for i (lengths_of m)) ≡ opened st → o.answer.outcome ≡ (Ok tt)
  unfolding open_given
  accepted-as st e = ap (λ (a : OpenAnswer). a.outcome) (s.answer ∙ ap open_given e)

  -- what the calls need: they are few, and made only over a store whose layout is whole
  pub may-call : {n : ℕ} {d₀ : Driven} → n ≡ most_calls o.answer.outcome o.record.queue.cap → d₀ ≡ before_calls o → (n ≤ 1048578) × Few 0 d₀.tally × (0 < n → store_is_ok (width_in i) i.store ≡ true)
  may-call {n} {d₀} c b = (few o.answer.outcome c, subst (Few 0) (sym (ap (λ (q : Driven). q.tally) b)) none-few, λ h. good h (open_walk i (room_for i (lengths_of m))) refl)
    where
      few : (a : Result (Unit {0}) Refusal) → n ≡ most_calls a o.record.queue.cap → n ≤ 1048578
      few (Ok _) e = omega (arith, e, few-slots)
      few (Err r) e = omega (arith, e)

      good : 0 < n → (w : Opening) → open_walk i (room_for i (lengths_of m)) ≡ w → store_is_ok (width_in i) i.store ≡ true
      good h (closed r) e = absurd (omega (arith, h, c ∙ ap (λ (x : Result (Unit {0}) Refusal). most_calls x o.record.queue.cap) (refused_as r e)))
      good h (opened st) e = (passes i (opens i (room_for i (lengths_of m)) (sym (ap checked_by e))).accepted).store-good

  -- before any call
  made_none : (task : Task) (embargoed terms : List ℕ) (st : State) → open_walk i (room_for i (lengths_of m)) ≡ opened st → (ids counts : List ℕ)
      → Made task embargoed terms i (holding no_tally ids counts) m₁.parents 0 (before_calls o) m₁ ids counts
  unfolding parents_left
  made_none task embargoed terms st e ids counts = record {
    accepted = accepted-as st e;
    held = sym (fold_none (width_in i) task embargoed terms i.store (holding no_tally ids counts) i);
    parents = ap (λ (l : List Answer). parents_left l m₁.parents) (sym (no-answers i));
    reads = s.accepted_open st e;
  }

  module _ {task : Task} {embargoed : List ℕ} (terms : List ℕ) {good : List ℕ} {n : ℕ} {d₀ d : Driven} {m' : Lent} {ids ids' : List ℕ} (counts : List ℕ) {c₁ counts' : List ℕ} (w : good ≡ good_part terms) (z : c₁ ≡ zeros (length counts))
      (c : n ≡ most_calls o.answer.outcome o.record.queue.cap) (b : d₀ ≡ before_calls o) (a : CallsAll task embargoed good (files_of i) n d₀ m₁ ids c₁ d m' ids' counts') where
    none_made : (r : Refusal) → open_walk i (room_for i (lengths_of m)) ≡ closed r → (d ≡ driven (Err r) no_tally closed_record) × (m' ≡ m) × (ids' ≡ ids) × (counts' ≡ zeros (length counts))
    none_made r e =
        let q = a.no_call (c ∙ ap (λ (x : Result (Unit {0}) Refusal). most_calls x o.record.queue.cap) (refused_as r e)) in
        let u = s.refused_open r e in
        (q.0 ∙ b ∙ ap (λ (x : Result (Unit {0}) Refusal). driven x no_tally o.record) (refused_as r e) ∙ ap (driven (Err r) no_tally) u.0, q.1 ∙ u.1, q.2, q.3 ∙ z)

    all_made : (st : State) → open_walk i (room_for i (lengths_of m)) ≡ opened st → Drove task embargoed (good_part terms) i (holding no_tally ids (zeros (length counts))) m.parents d m' ids' counts'
    all_made st e =
        let k : n ≡ P i + 2 = c ∙ ap (λ (x : Result (Unit {0}) Refusal). most_calls x o.record.queue.cap) (accepted-as st e) ∙ ap (λ (x : ℕ). x + 2) (opened-cap st e) in
        let h : Held = holding no_tally ids c₁ in
        let v : Drove task embargoed good i h m₁.parents d m' ids' counts' =
        a.all-calls i.tips st (ap (λ (x : _). open_walk i (room_for i x)) s.same-lengths ∙ e) k h (subst (λ (x : Driven). Made task embargoed good i h m₁.parents 0 x m₁ ids c₁) (sym b) (made_none task embargoed good st e ids c₁)) in
        subst (λ (x : List ℕ). Drove task embargoed x i (holding no_tally ids (zeros (length counts))) m.parents d m' ids' counts') w
        (subst (λ (x : List ℕ). Drove task embargoed good i (holding no_tally ids x) m.parents d m' ids' counts') z
        (subst (λ (x : List ℕ). Drove task embargoed good i h x d m' ids' counts') s.same-parents v))

    pub drive-says : Drives task embargoed terms i m ids counts d m' ids' counts'
    drive-says = record {
      refused_open = none_made;
      accepted_open = all_made;
      few = few_up n 1048578 d.tally (may-call c b).0 a.few;
      same-lengths = a.same-lengths ∙ s.same-lengths;
    }
