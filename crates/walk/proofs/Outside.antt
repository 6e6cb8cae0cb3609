-- What stays of a queue outside a set: exactly its ids that are not in the set, in their order.
-- Assumes nothing.
use mathlib.Core.Path.{◌≡◌, refl, ap}
use mathlib.Core.Logic.{⊎_elim}
use Prim.Native.Nat.{suc, ◌≤◌}
use mathlib.Core.Bool.{Bool, false}
use mathlib.Core.List.Memᴰ
use mathlib.Core.List.{List, [], ◌∷◌}
use native.Mathlib.Omega.{arith}
use lib.ListN.{length}
use lib.IntN.{ℤ}
use Rattle.hash.specs.Bytes.{Id}
use Rattle.hash.proofs.Tests.{by_cases, clash}
use Rattle.walk.specs.State.{ids, nobody}
use Rattle.walk.specs.Next.{outside}
use Rattle.walk.specs.Reach.{Mem, NoDup, more}
use Rattle.walk.proofs.Queue.{nodup_tail, nodup_first}

pub outside-out : (f : Id → Bool) (l : List (Id × ℤ)) (x : Id) → Mem x (ids (outside f l)) → Mem x (ids l) × (f x ≡ false)
unfolding outside ids
outside-out f [] x m = absurd (Memᴰ.not-nil m)
outside-out f (y ∷ ys) x m =
    by_cases (f y.0)
    (λ h. let r = outside-out f ys x (rw h at m) in (Memᴰ.tail r.0, r.1))
    (λ h. ⊎_elim (λ e. (Memᴰ.head e, rw e h)) (λ k. let r = outside-out f ys x k in (Memᴰ.tail r.0, r.1)) (Memᴰ.cases_cons (rw h at m)))

pub outside_in : (f : Id → Bool) (l : List (Id × ℤ)) (x : Id) → Mem x (ids l) → f x ≡ false → Mem x (ids (outside f l))
unfolding outside ids
outside_in f [] x m o = m
outside_in f (y ∷ ys) x m o =
    by_cases (f y.0)
    (λ h. rw h (⊎_elim (λ e. clash (rw e h) o) (λ k. outside_in f ys x k o) (Memᴰ.cases_cons m)))
    (λ h. rw h (⊎_elim (λ e. Memᴰ.head e) (λ k. Memᴰ.tail (outside_in f ys x k o)) (Memᴰ.cases_cons m)))

pub outside-once : (f : Id → Bool) (l : List (Id × ℤ)) → NoDup (ids l) → NoDup (ids (outside f l))
unfolding outside ids
outside-once f [] d = d
outside-once f (y ∷ ys) d =
    by_cases (f y.0)
    (λ h. rw h (outside-once f ys (nodup_tail d)))
    (λ h. rw h (more (λ k. nodup_first d (outside-out f ys y.0 k).0) (outside-once f ys (nodup_tail d))))

pub outside_length : (f : Id → Bool) (l : List (Id × ℤ)) → length (outside f l) ≤ length l
unfolding outside
outside_length f [] = omega arith
outside_length f (y ∷ ys) = by_cases (f y.0) (λ h. rw h (omega (arith, outside_length f ys))) (λ h. rw h (omega (arith, outside_length f ys)))

pub outside-nobody : (l : List (Id × ℤ)) → outside nobody l ≡ l
unfolding outside
outside-nobody [] = refl
outside-nobody (y ∷ ys) = ap (λ r. y ∷ r) (outside-nobody ys)

pub length_ids : (l : List (Id × ℤ)) → length (ids l) ≡ length l
unfolding ids
length_ids [] = refl
length_ids (x ∷ xs) = ap suc (length_ids xs)
