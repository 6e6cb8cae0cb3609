-- The call: refused by 2, 4 or 1 with nothing altered, or right by its steps. Assumes nothing.
use Rattle.std.specs.Prelude.{Err, None, Ok, Option, Result, Some}
use mathlib.Core.Path.{◌≡◌, refl, sym, ◌∙◌, ap, subst}
use Prim.Native.Nat.{ℕ, ◌+◌, ◌/◌, ◌<◌}
use native.Mathlib.Nat.{div_self}
use mathlib.Core.List.{List, [], ◌∷◌}
use native.Mathlib.Omega.{arith}
use lib.ListN.{length}
use lib.Seq.{take_all}
use Rattle.hash.specs.Bytes.{Id, width_of, ids_of}
use Rattle.hash.specs.declared.Kind.{Kind}
use Rattle.hash.proofs.Widths.{width_least}
use Rattle.object.specs.Header.{parent_size}
use Rattle.walk.specs.declared.Refusal.{Refusal}
use Rattle.walk.specs.Lookup.{world_of}
use Rattle.walk.specs.Opening.{Lengths, list_ids}
use Rattle.opening.specs.Checks.{lengths_of, checked_of}
use Rattle.reach.specs.Memory.{Lent, lent}
use Rattle.mergebase.specs.Parting.{MergeBase, early_refusal, refused_base}
use Rattle.mergebase.specs.Call.{FirstParts, MergeBaseSays}
use Rattle.mergebase.specs.Memory.{Place, answer_of, PartsTips}
use Rattle.mergebase.proofs.Early.{all-passed, roomy}
use Rattle.mergebase.proofs.Partings.{answers}

-- the bytes of one id are a list of one
one-id : (w : ℕ) (x : List ℕ) → 0 < w → length x ≡ w → list_ids w x ≡ x ∷ []
unfolding list_ids ids_of
one-id w x more e =
    ap (λ (k : ℕ). ids_of w k x) (ap (λ (n : ℕ). n / w) e ∙ div_self more) ∙ ap (λ (y : Id). y ∷ []) (take_all w x (omega (arith, e)))

-- what the tests answered
refused_as : {o : Option Refusal} {n r : Refusal} → o ≡ Some n → checked_of o ≡ Err r → r ≡ n
refused_as e q = let z = sym (ap checked_of e) ∙ q in cc

fine_refused {ℓ} : {X : Type ℓ} {r : Refusal} → ◌≡◌ {A = Result (Unit {0}) Refusal} (Ok tt) (Err r) → X
fine_refused e = cc

fine_none : (o : Option Refusal) → checked_of o ≡ (Ok tt) → o ≡ None
fine_none None e = refl
fine_none (Some n) e = fine_refused (sym e)

module _ (kind : Kind) (store : List ℕ) (a b : Id) (names marks levels line : List ℕ) (times parents : ℕ) {q : Result (Unit {0}) Refusal} (pa : length a ≡ width_of kind) (pb : length b ≡ width_of kind)
    (f : (x y : Id) → length x ≡ width_of kind → length y ≡ width_of kind → q ≡ checked_of (early_refusal kind store x y (lengths_of (length names) (length marks) (length levels) times (length line) parents))) where
  abbrev l : Lengths
  l = lengths_of (length names) (length marks) (length levels) times (length line) parents

  pub call-refused : {r : MergeBase} (n : Refusal) → q ≡ Err n → r ≡ refused_base n → MergeBaseSays kind store a b l (lent names marks line) (lent names marks line) levels levels r
  call-refused {r} n e z = record {
    early = λ k h. (z ∙ ap refused_base (refused_as h (sym (f a b pa pb) ∙ e)), refl, refl);
    parts = λ h. fine_refused (sym (ap checked_of h) ∙ sym (f a b pa pb) ∙ e);
  }

  pub call-parts : {levels' : List ℕ} {m' : Lent} {cap : ℕ} {one other : List ℕ} {p : Place} {r : MergeBase} → q ≡ (Ok tt) → cap ≡ 2 + length store / parent_size (width_of kind) → one ≡ a → other ≡ b
      → PartsTips (width_of kind) store (lent names marks line) m' levels cap (list_ids (width_of kind) one) (list_ids (width_of kind) other) p → r ≡ answer_of (width_of kind) m'.names p → MergeBaseSays kind store a b l (lent names marks line) m' levels levels' r
  call-parts {m' = m'} {cap} {one} {other} {p} {r} e c ea eb t z =
      let o : early_refusal kind store a b l ≡ None = fine_none (early_refusal kind store a b l) (sym (f a b pa pb) ∙ e) in
      record {
        early = λ k h. fine_refused (ap checked_of (sym o ∙ h));
        parts = λ h g.
            let s = all-passed kind store a b l h in
            subst (FirstParts (world_of (width_of kind) store g) a b) (sym z)
            (answers (t.right s.1 g a b (roomy kind store names marks line levels a b l cap refl refl refl refl pa pb c s.0 s.2) (ap (list_ids (width_of kind)) ea ∙ one-id (width_of kind) a (omega (arith, width_least kind)) pa) (ap (list_ids (width_of kind)) eb ∙ one-id (width_of kind) b (omega (arith, width_least kind)) pb)));
      }
