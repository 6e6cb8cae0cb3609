-- The whole list of a walk: its ids are as wide as their kind says, different and no more than P, and no further call adds to it, since call P + 2 says end at latest.
-- Assumes nothing.
use Rattle.std.specs.Prelude.{None}
use mathlib.Core.Path.{◌≡◌, refl, ◌∙◌, ap, subst}
use mathlib.Core.Logic.{⊎_elim}
use Prim.Native.Nat.{ℕ, zero, suc, ◌+◌, ◌-◌, ◌≤◌}
use mathlib.Core.Bool.{true}
use mathlib.Core.List.Memᴰ
use mathlib.Core.List.{List, [], ◌∷◌}
use native.Mathlib.Omega.{arith}
use lib.ListN.{length}
use lib.Seq.{take_all}
use Rattle.hash.specs.Bytes.{Id}
use Rattle.walk.specs.State.{State}
use Rattle.walk.specs.Opening.{Input, width_in, walk_of, list_ids, refusal, P, opened, open_walk}
use Rattle.walk.specs.Next.{end, Answer}
use Rattle.walk.specs.Calls.{answers, answer_at_call}
use Rattle.walk.specs.Reach.{Mem, NoDup}
use Rattle.walk.specs.Demand.{Premises, Delivers, Third}
use Rattle.walk.specs.Sums.{EndsBy, EndLaw}
use Rattle.walk.specs.AnyInput.{handed_by, handed_ids, Once}
use Rattle.walk.proofs.Calls.{answers_at}
use Rattle.walk.proofs.Whole.{end_law, third}
use Rattle.walk.proofs.Once.{once}
use Rattle.walk.proofs.Named.{fits}
use Rattle.walk.specs.Universe.{universe}
use Rattle.walk.proofs.Universe.{Tells, universe_length, all_told}
use Rattle.walk.proofs.Width.{universe-wide}
use Rattle.walk.proofs.Tips.{open_accepted}
use Rattle.traverse.proofs.Numbered.{ends_at, length_up_to, hands-ids}
use Rattle.driver.specs.Walked.{all_answers, whole_list}
use Rattle.driver.proofs.Ended.{handed-same}

-- every id is so wide
abbrev pub Wide : ℕ → List Id → Type 0
Wide w l = (x : Id) → Mem x l → length x ≡ w

-- every id that is handed out is told by one of the answers
told_in : (l : List Answer) (u : List Id) → ((a : Answer) → Mem a l → Tells u a) → (x : Id) → Mem x (handed_ids l) → Mem x u
unfolding handed_ids
told_in [] u t x m = absurd (Memᴰ.not-nil m)
told_in (a ∷ l) u t x m =
    ⊎_elim (λ h. (t a (Memᴰ.head refl)).id_in_lem x h) (λ h. told_in l u (λ b k. t b (Memᴰ.tail k)) x h) (Memᴰ.append_cases (handed_by a.kind) m)

module _ (i : Input) (st : State) (e : open_walk i true ≡ opened st) where
  in-universe : (x : Id) → Mem x (whole_list i) → Mem x (universe i)
  unfolding whole_list
  in-universe = told_in (all_answers i) (universe i) (all_told i st e (P i + 2))

  pub list-wide : Wide (width_in i) (whole_list i)
  list-wide x m = universe-wide i (open_accepted i st e) x (in-universe x m)

  pub list-once : NoDup (whole_list i)
  unfolding whole_list Once
  list-once = once i (P i + 2)

  pub list-within : length (whole_list i) ≤ P i
  list-within = omega (arith, fits (whole_list i) (universe i) list-once in-universe, universe_length i (open_accepted i st e))

  -- call P + 2 says end, and so does every later one
  pub ends-from : (k : ℕ) → P i + 1 ≤ k → (answer_at_call i k).kind ≡ end
  unfolding EndLaw
  ends-from k h = ends_at (answer_at_call i) k (P i + 1) (subst (EndsBy (P i + 1)) (answers_at i (suc k)) (end_law i st e (suc k))) h

  handed-on : (d : ℕ) → handed_ids (answers i (suc (P i + 1) + d)) ≡ handed_ids (answers i (suc (P i + 1)))
  handed-on zero = let z : suc (P i + 1) + 0 ≡ suc (P i + 1) = omega arith in ap (λ (k : ℕ). handed_ids (answers i k)) z
  handed-on (suc d) =
      let z : suc (P i + 1) + suc d ≡ suc (suc (P i + 1) + d) = omega arith in
      ap (λ (k : ℕ). handed_ids (answers i k)) z
      ∙ handed-same i st e (suc (P i + 1) + d) (ends-from (suc (P i + 1) + d) (omega arith))
      ∙ handed-on d

  pub list_all : (k : ℕ) → P i + 2 ≤ k → handed_ids (answers i k) ≡ whole_list i
  unfolding whole_list
  list_all k h =
      let z : k ≡ suc (P i + 1) + (k - (P i + 2)) = omega arith in
      let y : suc (P i + 1) ≡ P i + 2 = omega arith in
      ap (λ (n : ℕ). handed_ids (answers i n)) z ∙ handed-on (k - (P i + 2)) ∙ ap (λ (n : ℕ). handed_ids (answers i n)) y

-- ---- under the premises

-- it is the list of the third demand
pub listed-whole : (i : Input) → refusal i ≡ None → Premises (walk_of i) (list_ids (width_in i) i.tips) → (d : Delivers i) × (whole_list i ≡ d.list)
unfolding Third whole_list
listed-whole i e pre =
    let d = third i e pre in
    let n : length (all_answers i) ≡ P i + 2 = ap (λ (x : List Answer). length x) (answers_at i (P i + 2)) ∙ length_up_to (answer_at_call i) (P i + 2) in
    (d, hands-ids d.list (all_answers i) (d.handed_out (P i + 2)) ∙ take_all (length (all_answers i)) d.list (omega (arith, n, d.within)))
