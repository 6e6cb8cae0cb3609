-- The third demand: the opening's promise starts the walk, each call's promise carries it on, so every answer is the walk's; what is proved of the
-- walk's answers is then read off the answers given. Assumes nothing.
use Rattle.std.specs.Prelude.{Err, None, Ok, Option, Some}
use Prim.Native.Nat.{ℕ, suc, ◌+◌}
use mathlib.Core.Path.{◌≡◌, refl, sym, ◌∙◌, ap, subst}
use mathlib.Core.Logic.{⊎_elim}
use mathlib.Core.Bool.{Bool, true, false}
use mathlib.Core.List.Memᴰ
use mathlib.Core.List.{List, map}
use native.Mathlib.Omega.{arith}
use lib.ListN.{length, take, drop, take-append-drop}
use lib.Seq.{take_all}
use Rattle.hash.specs.Bytes.{Id}
use Rattle.walk.specs.declared.Refusal.{Refusal}
use Rattle.walk.specs.declared.Outcome.TheVariants.{Commit, End, Refused}
use Rattle.walk.specs.declared.OpenAnswer.{OpenAnswer}
use Rattle.walk.specs.State.{State}
use Rattle.walk.specs.Opening.{Input, width_in, walk_of, list_ids, refusal, room_for, P, Opening, closed, opened, open_tips, open_or, open_walk}
use Rattle.walk.specs.Next.{Kind, end, refused, handed, Answer}
use Rattle.walk.specs.Calls.{answer_at_call, answers}
use Rattle.walk.specs.Reach.{Mem, NoDup}
use Rattle.walk.specs.Demand.{Premises, Delivers, Hands, Third}
use Rattle.walk.specs.Sums.{Sums, EndsBy, SumLaw, EndLaw}
use Rattle.walk.specs.AnyInput.{handed_ids, Once, RefusedByCall}
use Rattle.walk.specs.Given.{Given, given, open_given, outcome_of, id_of_kind}
use Rattle.walk.proofs.Calls.{answers_at}
use Rattle.walk.proofs.Whole.{third, sum_law, end_law}
use Rattle.walk.proofs.Once.{once}
use Rattle.walk.proofs.Stays.{stays-from}
use Rattle.walk.proofs.Refused.{refused_by-call}
use Rattle.traverse.specs.declared.Opened.{Opened}
use Rattle.traverse.specs.Contract.{Files, Lent, lengths_of, OpenSays}
use Rattle.traverse.specs.Demand.{Call, Calls, files_of, CallIs, answers_of, handed_out, refused_commits, Gives, OfTheWalk, Lists, Delivered, AnyCalls, Shut, ThirdDemand}
use Rattle.hash.proofs.Widths.{width-most}
use Rattle.traverse.proofs.Wide.{answers-wide}
use Rattle.traverse.proofs.Numbered.{length_up_to, HandsAt, hands-at, hands-ids, given-ids, sum-at, ends_at}
use Rattle.traverse.proofs.Calls.{calls-walk, answers-up_to, take_up_to, calls-shut}

-- ---- an opening's outcome

-- an opening is accepted only with room
opened-room : (i : Input) (room : Bool) (st : State) → open_walk i room ≡ opened st → (room ≡ true) × (open_walk i true ≡ opened st)
unfolding open_walk open_or open_tips
opened-room i true st e = (refl, e)
opened-room i false st e = go (refusal i) e
  where
    go : {X : Type 0} (n : Option Refusal) → open_or i false n ≡ opened st → X
    go None e = let z : ◌≡◌ {A = ℕ} 0 1 = cc in absurd (omega arith)
    go (Some r) e = let z : ◌≡◌ {A = ℕ} 0 1 = cc in absurd (omega arith)

accepted-is : (o : Opening) → (open_given o).outcome ≡ (Ok tt) → (st : State) × (o ≡ opened st)
unfolding open_given
accepted-is (closed r) e = let z : ◌≡◌ {A = ℕ} 0 1 = cc in absurd (omega arith)
accepted-is (opened st) e = (st, refl)

refused-is : (o : Opening) (r : Refusal) → (open_given o).outcome ≡ Err r → (n : Refusal) × (o ≡ closed n)
unfolding open_given
refused-is (closed n) r e = (n, refl)
refused-is (opened st) r e = let z : ◌≡◌ {A = ℕ} 0 1 = cc in absurd (omega arith)

-- ---- an answer's outcome

is-end : (k : Kind) → outcome_of k ≡ End → k ≡ end
is-end end e = refl
is-end (refused r) e = let z : ◌≡◌ {A = ℕ} 0 1 = cc in absurd (omega arith)
is-end (handed x g t) e = let z : ◌≡◌ {A = ℕ} 0 1 = cc in absurd (omega arith)

is-refused : (k : Kind) (r : Refusal) → outcome_of k ≡ Refused r → k ≡ refused r
is-refused end r e = let z : ◌≡◌ {A = ℕ} 0 1 = cc in absurd (omega arith)
is-refused (refused n) r e = let z : n ≡ r = cc in ap refused z
is-refused (handed x g t) r e = let z : ◌≡◌ {A = ℕ} 0 1 = cc in absurd (omega arith)

-- the outcome and id that a call gave are those of its answer of the walk
gave : {c : Call} {a : Answer} → Gives c a → (c.out.answer.outcome ≡ outcome_of a.kind) × (c.out.answer.info.id ≡ id_of_kind a.kind)
unfolding given
gave g = (ap (λ (q : Given). q.outcome) g.all-fields, ap (λ (q : Given). q.info.id) g.all-fields)

says-end : {c : Call} {a : Answer} → Gives c a → a.kind ≡ end → c.out.answer.outcome ≡ End
says-end g e = (gave g).0 ∙ ap outcome_of e

-- ---- what holds of every list of the walk's answers

module _ (i : Input) (cs : List Call) (w : (k : ℕ) (c : Call) → CallIs cs k c → Gives c (answer_at_call i k)) where
  ids_are : handed_out (width_in i) (answers_of cs) ≡ handed_ids (answers i (length cs))
  ids_are =
      ap (handed_out (width_in i)) (answers-up_to (answer_at_call i) cs w ∙ ap (λ (l : List Answer). map given l) (sym (answers_at i (length cs))))
      ∙ given-ids (width_in i) (width-most i.settings.kind) (answers i (length cs)) (answers-wide i (length cs))

  ids-once : NoDup (handed_out (width_in i) (answers_of cs))
  unfolding Once
  ids-once = subst NoDup (sym ids_are) (once i (length cs))

  any-calls : (st : State) → open_walk i true ≡ opened st → AnyCalls i cs
  unfolding OfTheWalk SumLaw EndLaw RefusedByCall given
  any-calls st e = record {
    of_the_walk = w;
    different = ids-once;
    sum = λ k c p. summed k c p (w k c p).all-fields;
    end_by = λ k c p l. says-end (w k c p) (ends_at (answer_at_call i) k (P i + 1) (subst (EndsBy (P i + 1)) (answers_at i (suc k)) (end_law i st e (suc k))) l);
    end_stays = λ j k c d p q l n. says-end (w k d q) (stays-from i j k l (is-end (answer_at_call i j).kind (sym (gave (w j c p)).0 ∙ n)));
    refused-by = λ k c p r n. refused_by-call i st e k r (is-refused (answer_at_call i k).kind r (sym (gave (w k c p)).0 ∙ n));
  }
    where
      summed : (k : ℕ) (c : Call) → CallIs cs k c → c.out.answer ≡ given (answer_at_call i k)
          → c.out.answer.admitted
          ≡ length (handed_out (width_in i) (take (suc k) (answers_of cs))) + refused_commits (take (suc k) (answers_of cs)) + c.out.answer.struck + c.out.answer.waiting
      summed k c p g =
          let t = take_up_to (answer_at_call i) cs w k c p in
          let s = sum-at (width_in i) (answer_at_call i) k (subst (Sums 0) (answers_at i (suc k)) (sum_law i st e (suc k))) in
          subst (λ (a : Given). a.admitted ≡ length (handed_out (width_in i) (take (suc k) (answers_of cs))) + refused_commits (take (suc k) (answers_of cs)) + a.struck + a.waiting) (sym g)
          (subst (λ (l : List Given). (answer_at_call i k).admitted ≡ length (handed_out (width_in i) l) + refused_commits l + (answer_at_call i k).struck + (answer_at_call i k).waiting) (sym t) s)

  module _ (d : Delivers i) where
    -- number k of the list, or end
    at : (k : ℕ) → HandsAt d.list k (answer_at_call i k)
    at k = hands-at d.list (answer_at_call i) k (subst (Hands d.list) (answers_at i (suc k)) (d.handed_out (suc k)))

    ids-taken : handed_out (width_in i) (answers_of cs) ≡ take (length cs) d.list
    ids-taken =
        let n : length (answers i (length cs)) ≡ length cs = ap (λ (l : List Answer). length l) (answers_at i (length cs)) ∙ length_up_to (answer_at_call i) (length cs) in
        ids_are ∙ hands-ids d.list (answers i (length cs)) (d.handed_out (length cs)) ∙ ap (λ (k : ℕ). take k d.list) n

    lists : Lists i d.list cs
    unfolding OfTheWalk
    lists = record {
      of_the_walk = w;
      first_n = λ k c p l. ⊎_elim (λ h. ((gave (w k c p)).0 ∙ ap outcome_of h.3, (gave (w k c p)).1 ∙ ap id_of_kind h.3)) (λ h. absurd (omega (arith, h.0))) (at k);
      different = ids-once;
      of_these = λ x m. subst (λ (l : List Id). Mem x l) (take-append-drop (length cs) d.list) (Memᴰ.append_left (drop (length cs) d.list) (subst (λ (l : List Id). Mem x l) ids-taken m));
      n_calls = λ l. ids-taken ∙ take_all (length cs) d.list l;
      after_n = λ k c p l. ⊎_elim (λ h. absurd (omega (arith, h.0))) (λ h. says-end (w k c p) h.1) (at k);
      no-refusal = λ k c p r n. ⊎_elim
          (λ h. not-commit r (sym ((gave (w k c p)).0 ∙ ap outcome_of h.3) ∙ n))
          (λ h. not_end r (sym (says-end (w k c p) h.1) ∙ n))
          (at k);
    }
      where
        not-commit : (r : Refusal) → Commit ≡ Refused r → ⊥
        not-commit r e = let z : ◌≡◌ {A = ℕ} 0 1 = cc in absurd (omega arith)

        not_end : (r : Refusal) → End ≡ Refused r → ⊥
        not_end r e = let z : ◌≡◌ {A = ℕ} 0 1 = cc in absurd (omega arith)

-- ---- from an opening

module _ (i : Input) (m : Lent) (o : Opened) (m' : Lent) (s : OpenSays i m o m') where
  -- after an accepted one every answer is the walk's
  after_open : (st : State) → open_walk i (room_for i (lengths_of m)) ≡ opened st → (cs : List Call) → Calls (files_of i) o.record m' cs
      → (k : ℕ) (c : Call) → CallIs cs k c → Gives c (answer_at_call i k)
  after_open st e cs q k c p =
      let r = opened-room i (room_for i (lengths_of m)) st e in
      let z : 0 + k ≡ k = omega arith in
      subst (λ (j : ℕ). Gives c (answer_at_call i j)) z (calls-walk i st r.1 0 o.record m' cs (ap (room_for i) s.same-lengths ∙ r.0) (s.accepted_open st e) q k c p)

  demanded : refusal i ≡ None → room_for i (lengths_of m) ≡ true → Premises (walk_of i) (list_ids (width_in i) i.tips) → Delivered i o m'
  unfolding Third open_given
  demanded e room pre =
      let d = third i e pre in
      let k : open_walk i (room_for i (lengths_of m)) ≡ opened d.state = ap (open_walk i) room ∙ d.accepted in
      record {
        accepted = ap (λ (a : OpenAnswer). a.outcome) (s.answer ∙ ap open_given k);
        list = d.list;
        no_repeats = d.different;
        exactly = d.exactly;
        every-list = λ cs q. lists i cs (after_open d.state k cs q) d;
      }

  accepted-calls : o.answer.outcome ≡ (Ok tt) → (cs : List Call) → Calls (files_of i) o.record m' cs → AnyCalls i cs
  accepted-calls e cs q =
      let a = accepted-is (open_walk i (room_for i (lengths_of m))) (sym (ap (λ (a : OpenAnswer). a.outcome) s.answer) ∙ e) in
      any-calls i cs (after_open a.0 a.1 cs q) a.0 (opened-room i (room_for i (lengths_of m)) a.0 a.1).1

  refused-calls : (r : Refusal) → o.answer.outcome ≡ Err r → (f : Files) (cs : List Call) → Calls f o.record m' cs → (k : ℕ) (c : Call) → CallIs cs k c → Shut c
  refused-calls r e f cs q =
      let a = refused-is (open_walk i (room_for i (lengths_of m))) r (sym (ap (λ (a : OpenAnswer). a.outcome) s.answer) ∙ e) in
      calls-shut f o.record m' cs (s.refused_open a.0 a.1).0 q

pub third_demand : (i : Input) (m : Lent) → ThirdDemand i m
third_demand i m = record {
  demanded = λ o m' s. demanded i m o m' s;
  accepted-calls = λ o m' s. accepted-calls i m o m' s;
  refused-calls = λ o m' s. refused-calls i m o m' s;
}
