-- Lists of ids end to end: their ids are those of the parts, and with a hidden list of at most 1,024 whole ids in the place of another none of 2 to 6
-- comes to apply, since only its own length is asked for. Assumes nothing.
use Rattle.std.specs.Prelude.{None, Option, Some}
use mathlib.Core.Path.{◌≡◌, refl, sym, ◌∙◌, ap}
use Prim.Native.Nat.{ℕ, zero, suc, ◌+◌, ◌*◌, ◌/◌, ◌%◌, ◌≤◌, ◌<◌}
use mathlib.Core.Bool.{Bool, true, false, cond, ◌&&◌}
use mathlib.Core.List.{List, [], ◌∷◌, ◌++◌}
use native.Mathlib.Omega.{arith}
use native.Mathlib.Nat.{mul-zero, mul-mod_right, div-eq_of_eq-mul_right}
use lib.ListN.{length, take, drop, length-append, length-drop}
use lib.Seq.{take-append-le, drop-append-le, take_all}
use lib.Dec.{eqb, leb}
use borrow.Author.Tests.{leb-true, le-leb, eq-eqb}
use Rattle.hash.specs.Bytes.{Id, ids_of}
use Rattle.hash.proofs.Tests.{clash, no-some}
use Rattle.hash.proofs.Widths.{width_least}
use Rattle.walk.specs.declared.Refusal.{Refusal}
use Rattle.walk.specs.declared.Refusal.TheVariants.{InputTooLarge, PartialId}
use Rattle.walk.specs.Opening.{Input, list_ids, list_limit, sizes_ok, whole_ids, refusal, width_in}
use Rattle.hiding.specs.Hiding.{hiding, Whole}

pub some_bytes : (i : Input) → 0 < width_in i
some_bytes i = omega (arith, width_least i.settings.kind)

-- ---- the ids of a joined list

ids_append : (width : ℕ) (n m : ℕ) (h k : List ℕ) → length h ≡ width * n → ids_of width (n + m) (h ++ k) ≡ ids_of width n h ++ ids_of width m k
unfolding ids_of
ids_append width zero m [] k e = let z : 0 + m ≡ m = omega arith in ap (λ (n : ℕ). ids_of width n k) z
ids_append width zero m (x ∷ h) k e = absurd (omega (arith, mul-zero width))
ids_append width (suc n) m h k e =
    let a : take width (h ++ k) ≡ take width h = take-append-le width h k (omega arith) in
    let b : drop width (h ++ k) ≡ drop width h ++ k = drop-append-le width h k (omega arith) in
    let c : ids_of width (n + m) (drop width h ++ k) ≡ ids_of width n (drop width h) ++ ids_of width m k =
    ids_append width n m (drop width h) k (omega (arith, length-drop width h)) in
    let s : suc n + m ≡ suc (n + m) = omega arith in
    ap (λ (z : ℕ). ids_of width z (h ++ k)) s ∙ ap (λ (z : Id). z ∷ ids_of width (n + m) (drop width (h ++ k))) a
    ∙ ap (λ (z : List ℕ). take width h ∷ ids_of width (n + m) z) b ∙ ap (λ (z : List Id). take width h ∷ z) c

pub list-joined : (width : ℕ) → 0 < width → (h k : List ℕ) → Whole width h → Whole width k → list_ids width (h ++ k) ≡ list_ids width h ++ list_ids width k
unfolding list_ids
list-joined width positive h k a b =
    let n : length h / width ≡ a.count = div-eq_of_eq-mul_right positive a.is in
    let m : length k / width ≡ b.count = div-eq_of_eq-mul_right positive b.is in
    let o : length (h ++ k) / width ≡ a.count + b.count = div-eq_of_eq-mul_right positive (omega (arith, a.is, b.is, length-append h k)) in
    ap (λ (z : ℕ). ids_of width z (h ++ k)) o ∙ ids_append width a.count b.count h k a.is
    ∙ ap (λ (z : ℕ). ids_of width z h ++ ids_of width b.count k) (sym n) ∙ ap (λ (z : ℕ). ids_of width (length h / width) h ++ ids_of width z k) (sym m)

-- one id is a list
pub list-one : (width : ℕ) → 0 < width → (t : List ℕ) → length t ≡ width → list_ids width t ≡ t ∷ []
unfolding list_ids ids_of
list-one width positive t e =
    let n : length t / width ≡ 1 = div-eq_of_eq-mul_right positive (omega (arith, e)) in
    ap (λ (z : ℕ). ids_of width z t) n ∙ ap (λ (z : Id). z ∷ []) (take_all width t (omega arith))

-- ---- another hidden list is accepted where one is

pick-none : (b : Bool) (n : Option Refusal) (r : Refusal) → cond b n (Some r) ≡ None → (b ≡ true) × (n ≡ None)
pick-none true n r e = (refl, e)
pick-none false n r e = no-some (sym e)

of_pick : (b : Bool) (n : Option Refusal) (r : Refusal) → b ≡ true → n ≡ None → cond b n (Some r) ≡ None
of_pick b n r e f = rw (e, f)

-- the fourth of five tests, and the second of three, is another that holds
swap_fourth : (s g t p q e : Bool) → (s && g && t && p && e) ≡ true → q ≡ true → (s && g && t && q && e) ≡ true
swap_fourth true true true true q e f o = rw o f
swap_fourth true true true false q e f o = clash f refl
swap_fourth true true false p q e f o = clash f refl
swap_fourth true false t p q e f o = clash f refl
swap_fourth false g t p q e f o = clash f refl

fourth : (s g t p e : Bool) → (s && g && t && p && e) ≡ true → p ≡ true
fourth true true true true e f = refl
fourth true true true false e f = clash f refl
fourth true true false p e f = clash f refl
fourth true false t p e f = clash f refl
fourth false g t p e f = clash f refl

swap_second : (t p q e : Bool) → (t && p && e) ≡ true → q ≡ true → (t && q && e) ≡ true
swap_second true true q e f o = rw o f
swap_second true false q e f o = clash f refl
swap_second false p q e f o = clash f refl

module _ (i : Input) (h : List ℕ) where
  sizes : (k : List ℕ) → length k ≤ list_limit (width_in i) → sizes_ok (hiding i h) ≡ true → sizes_ok (hiding i k) ≡ true
  unfolding sizes_ok
  sizes k l f = swap_fourth (leb (length i.store) 16777216) (leb (length i.graph) 16777216) (leb (length i.tips) (list_limit (width_in i))) (leb (length h) (list_limit (width_in i)))
      (leb (length k) (list_limit (width_in i))) (leb (length i.excluded) (list_limit (width_in i))) f (le-leb (length k) (list_limit (width_in i)) l)

  wholes : (k : List ℕ) → Whole (width_in i) k → whole_ids (hiding i h) ≡ true → whole_ids (hiding i k) ≡ true
  unfolding whole_ids
  wholes k a f = swap_second (eqb (length i.tips % width_in i) 0) (eqb (length h % width_in i) 0) (eqb (length k % width_in i) 0) (eqb (length i.excluded % width_in i) 0) f
      (eq-eqb (length k % width_in i) 0 (ap (λ (z : ℕ). z % width_in i) a.is ∙ mul-mod_right (width_in i) a.count))

  -- a list that is accepted has at most 1,024 ids
  pub accepted-short : refusal (hiding i h) ≡ None → length h ≤ list_limit (width_in i)
  unfolding refusal sizes_ok
  accepted-short e = leb-true (length h) (list_limit (width_in i))
      (fourth (leb (length i.store) 16777216) (leb (length i.graph) 16777216) (leb (length i.tips) (list_limit (width_in i))) (leb (length h) (list_limit (width_in i)))
      (leb (length i.excluded) (list_limit (width_in i))) (pick-none (sizes_ok (hiding i h)) _ InputTooLarge e).0)

  pub accepted-other : (k : List ℕ) → Whole (width_in i) k → length k ≤ list_limit (width_in i) → refusal (hiding i h) ≡ None → refusal (hiding i k) ≡ None
  unfolding refusal
  accepted-other k a l e =
      let s = pick-none (sizes_ok (hiding i h)) _ InputTooLarge e in
      let w = pick-none (whole_ids (hiding i h)) _ PartialId s.1 in
      of_pick (sizes_ok (hiding i k)) _ InputTooLarge (sizes k l s.0) (of_pick (whole_ids (hiding i k)) _ PartialId (wholes k a w.0) w.1)
