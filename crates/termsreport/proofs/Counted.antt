-- The task Terms: after k calls the tally's reason is the first refusal of their answers, and its counts are those of the commits handed out.
-- Assumes nothing.
use mathlib.Core.Path.{◌≡◌, refl, sym, ◌∙◌, ap, subst}
use Prim.Native.Nat.{ℕ, zero, suc, ◌≤◌}
use mathlib.Core.List.Memᴰ
use mathlib.Core.List.{List, [], ◌++◌, append-nil}
use lib.ListN.{length}
use Rattle.hash.specs.Bytes.{Id}
use Rattle.hash.proofs.Widths.{width-most}
use Rattle.object.specs.Ids.{id_room}
use Rattle.object.proofs.IdBytes.{id_in_lem}
use Rattle.walk.specs.Reach.{Mem}
use Rattle.walk.specs.declared.Outcome.{Outcome}
use Rattle.walk.specs.Opening.{Input, width_in}
use Rattle.walk.specs.Next.{Kind, end, refused, handed, Answer}
use Rattle.walk.specs.Calls.{answer_at_call, answers}
use Rattle.walk.specs.AnyInput.{handed_by, handed_ids}
use Rattle.walk.specs.Given.{outcome_of, id_of_kind}
use Rattle.tally.specs.declared.Task.TheVariants.{Terms}
use Rattle.tally.specs.declared.Tally.{Tally}
use Rattle.tally.specs.Terms.{term_of, counts_at, outside_at, zeros}
use Rattle.tally.specs.Tally.{reason_after, step_of, counts_by, Held, holding, no_tally, stepped, folded}
use Rattle.traverse.proofs.Wide.{answer-wide}
use Rattle.driver.proofs.OneMore.{no-answers, answers-more, handed-more, fold_call, fold_none}
use Rattle.lister.specs.Walked.{first_refusal}
use Rattle.termsreport.specs.Counts.{count_outside, counts_in}
use Rattle.termsreport.proofs.Counts.{none-counted, counts-at, outside-at}
use Rattle.termsreport.proofs.First.{first-call}

-- the answers l came to h, with n counts
pub record Counted (width : ℕ) (terms s : List ℕ) (n : ℕ) (l : List Answer) (h : Held) : Type 0 where
  pub reason : h.tally.reason ≡ first_refusal l
  pub outside : h.tally.outside ≡ count_outside width terms s (handed_ids l)
  pub counts : h.counts ≡ counts_in width terms s (handed_ids l) n

-- ---- what one answer adds

-- the id of an answer is so wide
abbrev WideBy : ℕ → Kind → Type 0
WideBy width k = (x : Id) → Mem x (handed_by k) → length x ≡ width

reason-on : (width : ℕ) (embargoed terms s : List ℕ) (t : Tally) (k : Kind) → (step_of width Terms embargoed terms s t (outcome_of k) (id_of_kind k)).reason ≡ reason_after t.reason (outcome_of k)
reason-on width embargoed terms s t end = refl
reason-on width embargoed terms s t (refused r) = refl
reason-on width embargoed terms s t (handed x g u) = refl

outside-on : (width : ℕ) → width ≤ id_room → (embargoed terms s : List ℕ) (t : Tally) (l : List Id) (k : Kind) → WideBy width k → t.outside ≡ count_outside width terms s l
    → (step_of width Terms embargoed terms s t (outcome_of k) (id_of_kind k)).outside ≡ count_outside width terms s (l ++ handed_by k)
unfolding handed_by
outside-on width small embargoed terms s t l end w e = e ∙ ap (count_outside width terms s) (sym (append-nil l))
outside-on width small embargoed terms s t l (refused r) w e = e ∙ ap (count_outside width terms s) (sym (append-nil l))
outside-on width small embargoed terms s t l (handed x g u) w e =
    ap (λ (y : Id). outside_at t.outside (term_of width terms s y)) (id_in_lem width x (w x (Memᴰ.head refl)) small)
    ∙ ap (λ (n : ℕ). outside_at n (term_of width terms s x)) e ∙ outside-at width terms s l x

counts-on : (width : ℕ) → width ≤ id_room → (terms s c : List ℕ) (n : ℕ) (l : List Id) (k : Kind) → WideBy width k → c ≡ counts_in width terms s l n
    → counts_by width Terms terms s c (outcome_of k) (id_of_kind k) ≡ counts_in width terms s (l ++ handed_by k) n
unfolding handed_by
counts-on width small terms s c n l end w e = e ∙ ap (λ (z : List Id). counts_in width terms s z n) (sym (append-nil l))
counts-on width small terms s c n l (refused r) w e = e ∙ ap (λ (z : List Id). counts_in width terms s z n) (sym (append-nil l))
counts-on width small terms s c n l (handed x g u) w e =
    ap (λ (y : Id). counts_at c (term_of width terms s y)) (id_in_lem width x (w x (Memᴰ.head refl)) small)
    ∙ ap (λ (z : List ℕ). counts_at z (term_of width terms s x)) e ∙ counts-at width terms s l x n

-- ---- all answers

module _ (i : Input) (embargoed terms ids₀ : List ℕ) (n : ℕ) where
  handed-call : (k : ℕ) → handed_ids (answers i (suc k)) ≡ handed_ids (answers i k) ++ handed_by (answer_at_call i k).kind
  handed-call k = ap handed_ids (answers-more i k) ∙ handed-more (answers i k) (answer_at_call i k)

  counted_none : Counted (width_in i) terms i.store n (answers i 0) (holding no_tally ids₀ (zeros n))
  unfolding first_refusal count_outside handed_ids
  counted_none = record {
    reason = ap first_refusal (sym (no-answers i));
    outside = ap (λ (l : List Answer). count_outside (width_in i) terms i.store (handed_ids l)) (sym (no-answers i));
    counts = none-counted (width_in i) terms i.store n ∙ ap (λ (l : List Answer). counts_in (width_in i) terms i.store (handed_ids l) n) (sym (no-answers i));
  }

  counted_next : (k : ℕ) (h : Held) → Counted (width_in i) terms i.store n (answers i k) h → Counted (width_in i) terms i.store n (answers i (suc k)) (stepped (width_in i) Terms embargoed terms i.store h (answer_at_call i k).kind)
  counted_next k h d = record {
    reason =
        reason-on (width_in i) embargoed terms i.store h.tally (answer_at_call i k).kind
        ∙ ap (λ (o : Outcome). reason_after o (outcome_of (answer_at_call i k).kind)) d.reason
        ∙ sym (first-call i k);
    outside =
        outside-on (width_in i) (width-most i.settings.kind) embargoed terms i.store h.tally (handed_ids (answers i k)) (answer_at_call i k).kind (answer-wide i k) d.outside
        ∙ ap (count_outside (width_in i) terms i.store) (sym (handed-call k));
    counts =
        counts-on (width_in i) (width-most i.settings.kind) terms i.store h.counts n (handed_ids (answers i k)) (answer_at_call i k).kind (answer-wide i k) d.counts
        ∙ ap (λ (z : List Id). counts_in (width_in i) terms i.store z n) (sym (handed-call k));
  }

  pub counted-all : (k : ℕ) → Counted (width_in i) terms i.store n (answers i k) (folded (width_in i) Terms embargoed terms i.store (holding no_tally ids₀ (zeros n)) (answers i k))
  counted-all zero = subst (Counted (width_in i) terms i.store n (answers i 0)) (sym (fold_none (width_in i) Terms embargoed terms i.store (holding no_tally ids₀ (zeros n)) i)) counted_none
  counted-all (suc k) =
      subst (Counted (width_in i) terms i.store n (answers i (suc k))) (sym (fold_call (width_in i) Terms embargoed terms i.store (holding no_tally ids₀ (zeros n)) i k))
      (counted_next k (folded (width_in i) Terms embargoed terms i.store (holding no_tally ids₀ (zeros n)) (answers i k)) (counted-all k))
