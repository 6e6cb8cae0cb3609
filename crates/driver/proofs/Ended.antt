-- After an answer that says end the walk stays as it is: every later call says end, hands out nothing and has no parents, so what k calls came to is
-- what any more calls come to. Assumes nothing.
use mathlib.Core.Path.{◌≡◌, refl, sym, ◌∙◌, ap, subst}
use mathlib.Core.Logic.{⊎_elim}
use Prim.Native.Nat.{ℕ, zero, suc, ◌+◌, ◌-◌, ◌≤◌}
use mathlib.Core.Bool.{true}
use mathlib.Core.List.{List, [], ◌++◌, append-nil}
use native.Mathlib.Omega.{arith}
use lib.ListN.{length, take, drop, take-append-drop}
use Rattle.hash.specs.Bytes.{Id, set_down}
use Rattle.hash.proofs.Bytes.{set_down-fits, set_down-not}
use Rattle.hashtable.proofs.TableIds.{less?}
use Rattle.walk.specs.State.{State}
use Rattle.walk.specs.Opening.{Input, width_in, walk_of, opened, open_walk}
use Rattle.walk.specs.Next.{Kind, end, Answer, Step, step, next}
use Rattle.walk.specs.Calls.{state_after, answer_on, answer_at_call, answers}
use Rattle.walk.specs.AnyInput.{handed_by, handed_ids}
use Rattle.walk.specs.Given.{joined, parents_given}
use Rattle.walk.proofs.Stays.{ended-next, end-ended, stays-from}
use Rattle.state.specs.Reads.{Reads}
use Rattle.state.specs.Shapes.{shape_of}
use Rattle.traverse.specs.Contract.{Lent}
use Rattle.driver.specs.declared.Driven.{Driven}
use Rattle.tally.specs.declared.Task.{Task}
use Rattle.tally.specs.declared.Task.TheVariants.{Ids, Feed, Terms}
use Rattle.tally.specs.Tally.{Held, stepped, folded}
use Rattle.driver.specs.Walked.{parents_left}
use Rattle.driver.specs.Says.{Made}
use Rattle.driver.proofs.OneMore.{answers-more, handed-more, parents-more, fold_call}

pub set_down-nothing : (b : List ℕ) (i : ℕ) → set_down b i [] ≡ b
set_down-nothing b i =
    ⊎_elim (λ h. set_down-not b i [] h)
    (λ h. let e : i + 0 ≡ i = omega arith in set_down-fits b i [] h ∙ ap (λ (k : ℕ). take i b ++ drop k b) e ∙ take-append-drop i b)
    (less? (length b) (i + 0))

-- no task makes anything of the end
step_end : (w : ℕ) (task : Task) (embargoed terms s : List ℕ) (h : Held) → stepped w task embargoed terms s h end ≡ h
step_end w Ids embargoed terms s h = refl
step_end w Feed embargoed terms s h = refl
step_end w Terms embargoed terms s h = refl

module _ (i : Input) (st : State) (e : open_walk i true ≡ opened st) where
  -- the answer of call k is that of the walk's next step
  answer-is : (k : ℕ) → answer_at_call i k ≡ (next (walk_of i) (state_after i k)).answer
  unfolding answer_at_call answer_on
  answer-is k = ap (answer_on (walk_of i) (state_after i k)) e

  -- the call after an answer that says end
  again : (k : ℕ) → (answer_at_call i k).kind ≡ end → next (walk_of i) (state_after i (suc k)) ≡ step end [] (state_after i (suc k))
  unfolding state_after
  again k h = ended-next (walk_of i) (state_after i (suc k)) (end-ended (walk_of i) (state_after i k) (sym (ap (λ (a : Answer). a.kind) (answer-is k)) ∙ h))

  same-state : (k : ℕ) → (answer_at_call i k).kind ≡ end → state_after i (suc (suc k)) ≡ state_after i (suc k)
  unfolding state_after step
  same-state k h = ap (λ (r : Step). r.state) (again k h)

  bare : (k : ℕ) → (answer_at_call i k).kind ≡ end → ((answer_at_call i (suc k)).kind ≡ end) × ((answer_at_call i (suc k)).parents ≡ [])
  unfolding step
  bare k h = let a = answer-is (suc k) ∙ ap (λ (r : Step). r.answer) (again k h) in (ap (λ (r : Answer). r.kind) a, ap (λ (r : Answer). r.parents) a)

  -- such an answer adds nothing
  pub handed-same : (k : ℕ) → (answer_at_call i k).kind ≡ end → handed_ids (answers i (suc k)) ≡ handed_ids (answers i k)
  unfolding handed_by
  handed-same k h =
      ap handed_ids (answers-more i k) ∙ handed-more (answers i k) (answer_at_call i k) ∙ ap (λ (q : Kind). handed_ids (answers i k) ++ handed_by q) h ∙ append-nil (handed_ids (answers i k))

  held_same : (task : Task) (embargoed terms s : List ℕ) (q : Held) (k : ℕ) → (answer_at_call i k).kind ≡ end → folded (width_in i) task embargoed terms s q (answers i (suc k)) ≡ folded (width_in i) task embargoed terms s q (answers i k)
  held_same task embargoed terms s q k h = fold_call (width_in i) task embargoed terms s q i k ∙ ap (stepped (width_in i) task embargoed terms s (folded (width_in i) task embargoed terms s q (answers i k))) h ∙ step_end (width_in i) task embargoed terms s (folded (width_in i) task embargoed terms s q (answers i k))

  parents-same : (k : ℕ) (b : List ℕ) → (answer_at_call i k).parents ≡ [] → parents_left (answers i (suc k)) b ≡ parents_left (answers i k) b
  unfolding parents_given joined
  parents-same k b h =
      ap (λ (l : List Answer). parents_left l b) (answers-more i k)
      ∙ parents-more (answers i k) (answer_at_call i k) b
      ∙ ap (λ (l : List Id). set_down (parents_left (answers i k) b) 0 (joined l)) h
      ∙ set_down-nothing (parents_left (answers i k) b) 0

  made_more : {task : Task} {embargoed terms : List ℕ} {h₀ : Held} {b₀ : List ℕ} {d : Driven} {m : Lent} {ids counts : List ℕ} (k : ℕ) → (answer_at_call i k).kind ≡ end → Made task embargoed terms i h₀ b₀ (suc k) d m ids counts → Made task embargoed terms i h₀ b₀ (suc (suc k)) d m ids counts
  made_more {task = task} {embargoed = embargoed} {terms = terms} {h₀ = h₀} {b₀ = b₀} {d = d} {m = m} k h a =
      let b = bare k h in
      record {
        accepted = a.accepted;
        held = a.held ∙ sym (held_same task embargoed terms i.store h₀ (suc k) b.0);
        parents = a.parents ∙ sym (parents-same (suc k) b₀ b.1);
        reads = subst (Reads d.record m.memory (shape_of i)) (sym (same-state k h)) a.reads;
      }

  made-on : {task : Task} {embargoed terms : List ℕ} {h₀ : Held} {b₀ : List ℕ} {d : Driven} {m : Lent} {ids counts : List ℕ} (j n : ℕ) → (answer_at_call i j).kind ≡ end → Made task embargoed terms i h₀ b₀ (suc j) d m ids counts → Made task embargoed terms i h₀ b₀ (suc (j + n)) d m ids counts
  made-on {task} {embargoed} {terms} {h₀} {b₀} {d} {m} {ids} {counts} j zero h a = let z : suc j ≡ suc (j + 0) = omega arith in subst (λ (k : ℕ). Made task embargoed terms i h₀ b₀ k d m ids counts) z a
  made-on {task} {embargoed} {terms} {h₀} {b₀} {d} {m} {ids} {counts} j (suc n) h a =
      let z : suc (suc (j + n)) ≡ suc (j + suc n) = omega arith in
      subst (λ (k : ℕ). Made task embargoed terms i h₀ b₀ k d m ids counts) z (made_more (j + n) (stays-from i j (j + n) (omega arith) h) (made-on j n h a))

  -- call j said end: what its calls came to is what n calls come to, if n is no fewer
  pub made_all : {task : Task} {embargoed terms : List ℕ} {h₀ : Held} {b₀ : List ℕ} {d : Driven} {m : Lent} {ids counts : List ℕ} (j n : ℕ) → suc j ≤ n → (answer_at_call i j).kind ≡ end → Made task embargoed terms i h₀ b₀ (suc j) d m ids counts → Made task embargoed terms i h₀ b₀ n d m ids counts
  made_all {task} {embargoed} {terms} {h₀} {b₀} {d} {m} {ids} {counts} j n g h a =
      let z : suc (j + (n - suc j)) ≡ n = omega arith in
      subst (λ (k : ℕ). Made task embargoed terms i h₀ b₀ k d m ids counts) z (made-on j (n - suc j) h a)
