-- Taking ids out of a list: tests that agree on its ids take out the same, and two tests one after the other are one test. Assumes nothing.
use mathlib.Core.Path.{◌≡◌, refl, sym, ◌∙◌, ap}
use mathlib.Core.Logic.{⊎_elim}
use mathlib.Core.Bool.{Bool, true, false, cond, ◌&&◌}
use mathlib.Core.List.Memᴰ
use mathlib.Core.List.{List, [], ◌∷◌}
use Rattle.hash.specs.Bytes.{Id}
use Rattle.hash.proofs.Tests.{by_cases, clash, not_yes}
use Rattle.walk.specs.Reach.{Mem}
use Rattle.hidingorder.specs.Order.{those}

-- tests that hold where the other holds are equal
pub same_test : (a b : Bool) → (a ≡ true → b ≡ true) → (b ≡ true → a ≡ true) → a ≡ b
same_test true b p q = sym (p refl)
same_test false b p q = sym (not_yes (λ e. clash (q e) refl))

pub those_keep : (f : Id → Bool) (x : Id) (l : List Id) → f x ≡ true → those f (x ∷ l) ≡ x ∷ those f l
unfolding those
those_keep f x l e = ap (λ (b : Bool). cond b (x ∷ those f l) (those f l)) e

pub those_drop : (f : Id → Bool) (x : Id) (l : List Id) → f x ≡ false → those f (x ∷ l) ≡ those f l
unfolding those
those_drop f x l e = ap (λ (b : Bool). cond b (x ∷ those f l) (those f l)) e

pub those-same : (f g : Id → Bool) (l : List Id) → ((x : Id) → Mem x l → f x ≡ g x) → those f l ≡ those g l
unfolding those
those-same f g [] h = refl
those-same f g (x ∷ xs) h =
    ap (λ (b : Bool). cond b (x ∷ those f xs) (those f xs)) (h x (Memᴰ.head refl))
    ∙ ap (λ (q : List Id). cond (g x) (x ∷ q) q) (those-same f g xs (λ y m. h y (Memᴰ.tail m)))

pub those-twice : (f g : Id → Bool) (l : List Id) → those g (those f l) ≡ those (λ x. f x && g x) l
unfolding those
those-twice f g [] = refl
those-twice f g (x ∷ xs) =
    by_cases (f x)
    (λ h. by_cases (g x) (λ k. rw (h, k) (ap (λ (q : List Id). x ∷ q) (those-twice f g xs))) (λ k. rw (h, k) (those-twice f g xs)))
    (λ h. rw h (those-twice f g xs))

pub those-out : (f : Id → Bool) (l : List Id) (x : Id) → Mem x (those f l) → Mem x l × (f x ≡ true)
unfolding those
those-out f [] x m = absurd (Memᴰ.not-nil m)
those-out f (y ∷ ys) x m =
    by_cases (f y)
    (λ h. ⊎_elim (λ e. (Memᴰ.head e, rw e h)) (λ k. let r = those-out f ys x k in (Memᴰ.tail r.0, r.1)) (Memᴰ.cases_cons (rw h at m)))
    (λ h. let r = those-out f ys x (rw h at m) in (Memᴰ.tail r.0, r.1))

pub those_in : (f : Id → Bool) (l : List Id) (x : Id) → Mem x l → f x ≡ true → Mem x (those f l)
unfolding those
those_in f [] x m e = m
those_in f (y ∷ ys) x m e =
    by_cases (f y)
    (λ h. rw h (⊎_elim (λ k. Memᴰ.head k) (λ k. Memᴰ.tail (those_in f ys x k e)) (Memᴰ.cases_cons m)))
    (λ h. rw h (⊎_elim (λ k. clash e (rw k h)) (λ k. those_in f ys x k e) (Memᴰ.cases_cons m)))
