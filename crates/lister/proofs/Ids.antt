-- The task Ids: after k calls the tally counts what they handed out and refused, and the ids stand in the caller's buffer. Assumes nothing.
use mathlib.Core.Path.{◌≡◌, sym, ◌∙◌, ap, subst}
use Prim.Native.Nat.{ℕ, zero, suc}
use mathlib.Core.List.{List, ◌++◌}
use lib.ListN.{length}
use Rattle.hash.specs.Bytes.{Id}
use Rattle.hash.proofs.Widths.{width-most}
use Rattle.walk.specs.declared.Outcome.{Outcome}
use Rattle.walk.specs.Opening.{Input, width_in}
use Rattle.walk.specs.Next.{Kind, Answer}
use Rattle.walk.specs.Calls.{answer_at_call, answers}
use Rattle.walk.specs.AnyInput.{handed_by, handed_ids}
use Rattle.walk.specs.Given.{outcome_of, id_of_kind}
use Rattle.tally.specs.declared.Task.TheVariants.{Ids}
use Rattle.tally.specs.Tally.{commits_after, refused_after, reason_after, ids_after, Held, holding, no_tally, stepped, folded}
use Rattle.traverse.proofs.Wide.{answer-wide}
use Rattle.driver.proofs.OneMore.{no-answers, answers-more, handed-more, fold_call, fold_none}
use Rattle.lister.specs.Walked.{refusals, first_refusal, put_down}
use Rattle.lister.proofs.OneMore.{refusals-more, first_more, commits-on, refused-on, ids-on}

-- the answers l came to h; the buffer was ids₀ before them
pub record Counts (width : ℕ) (ids₀ : List ℕ) (l : List Answer) (h : Held) : Type 0 where
  pub commits : h.tally.commits ≡ length (handed_ids l)
  pub refused : h.tally.refused ≡ refusals l
  pub reason : h.tally.reason ≡ first_refusal l
  pub put-down : h.ids ≡ put_down width ids₀ 0 (handed_ids l)

module _ (i : Input) (ids₀ embargoed terms counts₀ : List ℕ) where
  counts-none : Counts (width_in i) ids₀ (answers i 0) (holding no_tally ids₀ counts₀)
  unfolding handed_ids refusals first_refusal put_down
  counts-none = record {
    commits = ap (λ (l : List Answer). length (handed_ids l)) (sym (no-answers i));
    refused = ap refusals (sym (no-answers i));
    reason = ap first_refusal (sym (no-answers i));
    put-down = ap (λ (l : List Answer). put_down (width_in i) ids₀ 0 (handed_ids l)) (sym (no-answers i));
  }

  counts-next : (k : ℕ) (h : Held) → Counts (width_in i) ids₀ (answers i k) h → Counts (width_in i) ids₀ (answers i (suc k)) (stepped (width_in i) Ids embargoed terms i.store h (answer_at_call i k).kind)
  counts-next k h d =
      let a : Answer = answer_at_call i k in
      let e : handed_ids (answers i (suc k)) ≡ handed_ids (answers i k) ++ handed_by a.kind = ap handed_ids (answers-more i k) ∙ handed-more (answers i k) a in
      record {
        commits =
            ap (λ (n : ℕ). commits_after n (outcome_of a.kind)) d.commits
            ∙ commits-on (handed_ids (answers i k)) a.kind
            ∙ ap (λ (x : List Id). length x) (sym e);
        refused =
            ap (λ (n : ℕ). refused_after n (outcome_of a.kind)) d.refused
            ∙ refused-on (refusals (answers i k)) a.kind
            ∙ sym (ap refusals (answers-more i k) ∙ refusals-more (answers i k) a);
        reason =
            ap (λ (n : Outcome). reason_after n (outcome_of a.kind)) d.reason
            ∙ sym (ap first_refusal (answers-more i k) ∙ first_more (answers i k) a);
        put-down =
            ap (λ (b : List ℕ). ids_after (width_in i) b h.tally.commits (outcome_of a.kind) (id_of_kind a.kind)) d.put-down
            ∙ ap (λ (n : ℕ). ids_after (width_in i) (put_down (width_in i) ids₀ 0 (handed_ids (answers i k))) n (outcome_of a.kind) (id_of_kind a.kind)) d.commits
            ∙ ids-on (width_in i) (width-most i.settings.kind) ids₀ (handed_ids (answers i k)) a.kind (answer-wide i k)
            ∙ ap (put_down (width_in i) ids₀ 0) (sym e);
      }

  pub counts_all : (k : ℕ) → Counts (width_in i) ids₀ (answers i k) (folded (width_in i) Ids embargoed terms i.store (holding no_tally ids₀ counts₀) (answers i k))
  counts_all zero = subst (Counts (width_in i) ids₀ (answers i 0)) (sym (fold_none (width_in i) Ids embargoed terms i.store (holding no_tally ids₀ counts₀) i)) counts-none
  counts_all (suc k) =
      subst (Counts (width_in i) ids₀ (answers i (suc k))) (sym (fold_call (width_in i) Ids embargoed terms i.store (holding no_tally ids₀ counts₀) i k))
      (counts-next k (folded (width_in i) Ids embargoed terms i.store (holding no_tally ids₀ counts₀) (answers i k)) (counts_all k))
