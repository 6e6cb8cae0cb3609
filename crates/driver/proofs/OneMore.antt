-- One call more: the answers to k + 1 calls are those to k calls and the answer of call k, so what they come to goes on by that answer alone.
-- Assumes nothing.
use mathlib.Core.Path.{◌≡◌, refl, sym, ◌∙◌, ap}
use Prim.Native.Nat.{ℕ, zero, suc}
use mathlib.Core.List.{List, [], ◌∷◌, ◌++◌, append_assoc, append-nil}
use Rattle.hash.specs.Bytes.{Id}
use Rattle.walk.specs.Opening.{Input}
use Rattle.walk.specs.Next.{Answer}
use Rattle.walk.specs.Calls.{answer_at_call, answers, up_to}
use Rattle.walk.specs.AnyInput.{handed_by, handed_ids}
use Rattle.walk.specs.Given.{parents_given}
use Rattle.walk.proofs.Calls.{answers_at}
use Rattle.tally.specs.declared.Task.{Task}
use Rattle.tally.specs.Tally.{Held, stepped, folded}
use Rattle.driver.specs.Walked.{parents_left}

up_to-more : {A : Type 0} (f : ℕ → A) (k : ℕ) → up_to f (suc k) ≡ up_to f k ++ (f k ∷ [])
unfolding up_to
up_to-more f zero = refl
up_to-more f (suc k) = ap (λ (l : List _). f zero ∷ l) (up_to-more (λ n. f (suc n)) k)

pub no-answers : (i : Input) → answers i 0 ≡ []
unfolding up_to
no-answers i = answers_at i 0

pub answers-more : (i : Input) (k : ℕ) → answers i (suc k) ≡ answers i k ++ (answer_at_call i k ∷ [])
answers-more i k = answers_at i (suc k) ∙ up_to-more (answer_at_call i) k ∙ ap (λ (l : List Answer). l ++ (answer_at_call i k ∷ [])) (sym (answers_at i k))

pub handed-more : (l : List Answer) (a : Answer) → handed_ids (l ++ (a ∷ [])) ≡ handed_ids l ++ handed_by a.kind
unfolding handed_ids
handed-more [] a = append-nil (handed_by a.kind)
handed-more (b ∷ l) a = ap (λ (r : List Id). handed_by b.kind ++ r) (handed-more l a) ∙ sym (append_assoc (handed_by b.kind) (handed_ids l) (handed_by a.kind))

pub parents-more : (l : List Answer) (a : Answer) (b : List ℕ) → parents_left (l ++ (a ∷ [])) b ≡ parents_given a (parents_left l b)
unfolding parents_left
parents-more [] a b = refl
parents-more (c ∷ l) a b = parents-more l a (parents_given c b)

folded_more : (w : ℕ) (task : Task) (embargoed terms s : List ℕ) (h : Held) (l : List Answer) (a : Answer) → folded w task embargoed terms s h (l ++ (a ∷ [])) ≡ stepped w task embargoed terms s (folded w task embargoed terms s h l) a.kind
unfolding folded
folded_more w task embargoed terms s h [] a = refl
folded_more w task embargoed terms s h (b ∷ l) a = folded_more w task embargoed terms s (stepped w task embargoed terms s h b.kind) l a

-- the step over the answers to a call more
pub fold_call : (w : ℕ) (task : Task) (embargoed terms s : List ℕ) (h : Held) (i : Input) (k : ℕ) → folded w task embargoed terms s h (answers i (suc k)) ≡ stepped w task embargoed terms s (folded w task embargoed terms s h (answers i k)) (answer_at_call i k).kind
fold_call w task embargoed terms s h i k = ap (folded w task embargoed terms s h) (answers-more i k) ∙ folded_more w task embargoed terms s h (answers i k) (answer_at_call i k)

pub fold_none : (w : ℕ) (task : Task) (embargoed terms s : List ℕ) (h : Held) (i : Input) → folded w task embargoed terms s h (answers i 0) ≡ h
unfolding folded
fold_none w task embargoed terms s h i = ap (folded w task embargoed terms s h) (no-answers i)
