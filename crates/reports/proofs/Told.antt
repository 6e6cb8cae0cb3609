-- The task Feed: after k calls the tally's reason is the first fault of their answers, and its numbers are those of the commits handed out.
-- Assumes nothing.
use Rattle.std.specs.Prelude.{Err, None, Ok, Option, Result, Some}
use mathlib.Core.Path.{◌≡◌, refl, sym, ◌∙◌, ap, subst}
use Prim.Native.Nat.{ℕ, zero, suc, ◌≤◌}
use mathlib.Core.List.Memᴰ
use mathlib.Core.List.{List, ◌++◌, append-nil}
use lib.ListN.{length}
use Rattle.hash.specs.Bytes.{Id}
use Rattle.hash.proofs.Widths.{width-most}
use Rattle.object.specs.Ids.{id_room}
use Rattle.object.proofs.IdBytes.{id_in_lem}
use Rattle.walk.specs.declared.Refusal.{Refusal}
use Rattle.walk.specs.declared.Outcome.{Outcome}
use Rattle.walk.specs.declared.Outcome.TheVariants.{Commit, End, Refused}
use Rattle.walk.specs.Opening.{Input, width_in, list_ids}
use Rattle.walk.specs.Reach.{Mem}
use Rattle.walk.specs.Next.{Kind, end, refused, handed, Answer}
use Rattle.walk.specs.Calls.{answer_at_call, answers}
use Rattle.walk.specs.AnyInput.{handed_by, handed_ids}
use Rattle.walk.specs.Given.{outcome_of, id_of_kind}
use Rattle.tally.specs.declared.feeds.Feeds.{Feeds}
use Rattle.feed.specs.declared.Feed.{Feed}
use Rattle.tally.specs.declared.Task.TheVariants.{Feed as Feeding}
use Rattle.tally.specs.declared.Tally.{Tally}
use Rattle.tally.specs.Feeds.{feed_for, feeds_in, plus, feeds_over}
use Rattle.tally.specs.Tally.{reason_or, fed_by, step_of, Held, holding, no_tally, stepped, folded}
use Rattle.traverse.proofs.Wide.{answer-wide}
use Rattle.driver.proofs.OneMore.{no-answers, answers-more, handed-more, fold_call, fold_none}
use Rattle.reports.specs.Report.{fault_in, fault_by, first_fault}
use Rattle.reports.proofs.Adding.{plus_none, over-more}
use Rattle.reports.proofs.Faults.{first_of, first-last, fault_call}

abbrev pub as_reason : Option Refusal → Outcome
as_reason None = End
as_reason (Some r) = Refused r

-- the readings where those of the embargoed ids are withheld
abbrev pub seen : ℕ → List ℕ → List ℕ → Id → Result Feed Refusal
seen width embargoed s = feed_for width (list_ids width embargoed) s

-- the answers l came to h, by readings that f gives
pub record Told (f : Id → Result Feed Refusal) (l : List Answer) (h : Held) : Type 0 where
  pub reason : h.tally.reason ≡ as_reason (first_fault f l)
  pub feeds : h.tally.feeds ≡ feeds_over f (handed_ids l)

reason-more : (o : Outcome) (f : Option Refusal) (r : Refusal) → o ≡ as_reason f → reason_or o (Refused r) ≡ as_reason (first_of f (Some r))
reason-more o None r e = ap (λ (z : Outcome). reason_or z (Refused r)) e
reason-more o (Some q) r e = ap (λ (z : Outcome). reason_or z (Refused r)) e

-- the id of an answer is so wide
abbrev WideBy : ℕ → Kind → Type 0
WideBy width k = (x : Id) → Mem x (handed_by k) → length x ≡ width

reason-on : (width : ℕ) → width ≤ id_room → (embargoed terms s : List ℕ) (t : Tally) (f : Option Refusal) (k : Kind) → WideBy width k → t.reason ≡ as_reason f
    → (step_of width Feeding embargoed terms s t (outcome_of k) (id_of_kind k)).reason ≡ as_reason (first_of f (fault_by (seen width embargoed s) k))
unfolding handed_by
reason-on width small embargoed terms s t f end w e = e ∙ ap as_reason (sym (first-last f))
reason-on width small embargoed terms s t f (refused r) w e = reason-more t.reason f r e
reason-on width small embargoed terms s t f (handed x g u) w e = ap (λ (y : Id). (fed_by t Commit (seen width embargoed s y)).reason) (id_in_lem width x (w x (Memᴰ.head refl)) small) ∙ go (seen width embargoed s x)
  where
    go : (q : Result Feed Refusal) → (fed_by t Commit q).reason ≡ as_reason (first_of f (fault_in q))
    go (Ok p) = e ∙ ap as_reason (sym (first-last f))
    go (Err r) = reason-more t.reason f r e

feeds-on : (width : ℕ) → width ≤ id_room → (embargoed terms s : List ℕ) (t : Tally) (l : List Id) (k : Kind) → WideBy width k → t.feeds ≡ feeds_over (seen width embargoed s) l
    → (step_of width Feeding embargoed terms s t (outcome_of k) (id_of_kind k)).feeds ≡ feeds_over (seen width embargoed s) (l ++ handed_by k)
unfolding handed_by
feeds-on width small embargoed terms s t l end w e = e ∙ ap (feeds_over (seen width embargoed s)) (sym (append-nil l))
feeds-on width small embargoed terms s t l (refused r) w e = e ∙ ap (feeds_over (seen width embargoed s)) (sym (append-nil l))
feeds-on width small embargoed terms s t l (handed x g u) w e =
    ap (λ (y : Id). (fed_by t Commit (seen width embargoed s y)).feeds) (id_in_lem width x (w x (Memᴰ.head refl)) small)
    ∙ go (seen width embargoed s x) ∙ ap (λ (f : Feeds). plus f (feeds_in (seen width embargoed s x))) e ∙ sym (over-more (seen width embargoed s) l x)
  where
    go : (q : Result Feed Refusal) → (fed_by t Commit q).feeds ≡ plus t.feeds (feeds_in q)
    go (Ok p) = refl
    go (Err r) = sym (plus_none t.feeds)

module _ (i : Input) (ids₀ embargoed terms counts₀ : List ℕ) where
  told_none : Told (seen (width_in i) embargoed i.store) (answers i 0) (holding no_tally ids₀ counts₀)
  unfolding first_fault feeds_over handed_ids
  told_none = record {
    reason = ap (λ (l : List Answer). as_reason (first_fault (seen (width_in i) embargoed i.store) l)) (sym (no-answers i));
    feeds = ap (λ (l : List Answer). feeds_over (seen (width_in i) embargoed i.store) (handed_ids l)) (sym (no-answers i));
  }

  told-next : (k : ℕ) (h : Held) → Told (seen (width_in i) embargoed i.store) (answers i k) h → Told (seen (width_in i) embargoed i.store) (answers i (suc k)) (stepped (width_in i) Feeding embargoed terms i.store h (answer_at_call i k).kind)
  told-next k h d = record {
    reason = reason-on (width_in i) (width-most i.settings.kind) embargoed terms i.store h.tally (first_fault (seen (width_in i) embargoed i.store) (answers i k)) (answer_at_call i k).kind (answer-wide i k) d.reason ∙ ap as_reason (sym (fault_call (seen (width_in i) embargoed i.store) i k));
    feeds =
        feeds-on (width_in i) (width-most i.settings.kind) embargoed terms i.store h.tally (handed_ids (answers i k)) (answer_at_call i k).kind (answer-wide i k) d.feeds
        ∙ ap (feeds_over (seen (width_in i) embargoed i.store)) (sym (ap handed_ids (answers-more i k) ∙ handed-more (answers i k) (answer_at_call i k)));
  }

  pub told-all : (k : ℕ) → Told (seen (width_in i) embargoed i.store) (answers i k) (folded (width_in i) Feeding embargoed terms i.store (holding no_tally ids₀ counts₀) (answers i k))
  told-all zero = subst (Told (seen (width_in i) embargoed i.store) (answers i 0)) (sym (fold_none (width_in i) Feeding embargoed terms i.store (holding no_tally ids₀ counts₀) i)) told_none
  told-all (suc k) =
      subst (Told (seen (width_in i) embargoed i.store) (answers i (suc k))) (sym (fold_call (width_in i) Feeding embargoed terms i.store (holding no_tally ids₀ counts₀) i k))
      (told-next k (folded (width_in i) Feeding embargoed terms i.store (holding no_tally ids₀ counts₀) (answers i k)) (told-all k))
