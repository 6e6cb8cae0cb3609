-- Ids by rising id: the order in which ids are put in does not matter, because equal ids are the same. So the ids of slots in any order
-- of a queue, sorted, are those ids put in one by one in the order of their places. Assumes nothing.
use mathlib.Core.Path.{◌≡◌, refl, sym, ◌∙◌, ap, subst}
use Prim.Native.Nat.{ℕ, zero, suc}
use mathlib.Core.Bool.{Bool, true, false, cond}
use mathlib.Core.List.{List, [], ◌∷◌, map}
use Rattle.hash.specs.Bytes.{Id, lt_id, eq_id}
use Rattle.hash.proofs.Tests.{by_cases, clash}
use Rattle.hash.proofs.Ids.{eq_id_eq, lt_id_asym, lt_id_trans, lt_id-total}
use Rattle.revwalk.specs.Order.{insert_by, sort_at}
use Rattle.walk.specs.Painting.{insert_id, sorted}

-- neither before the other: the same
same_of : (x y : Id) → lt_id x y ≡ false → lt_id y x ≡ false → x ≡ y
same_of x y e f = by_cases (eq_id x y) (λ h. eq_id_eq x y h) (λ h. clash (lt_id-total x y e h) f)

-- x is not after z, and z is before y
before_too : (x z y : Id) → lt_id z x ≡ false → lt_id z y ≡ true → lt_id x y ≡ true
before_too x z y e f = by_cases (lt_id x z) (λ h. lt_id_trans x z y h f) (λ h. subst (λ (k : Id). lt_id k y ≡ true) (sym (same_of x z h e)) f)

pub insert_nil : (x : Id) → insert_id x [] ≡ x ∷ []
unfolding insert_id
insert_nil x = refl

pub insert_cons : (x y : Id) (l : List Id) → insert_id x (y ∷ l) ≡ cond (lt_id y x) (y ∷ insert_id x l) (x ∷ (y ∷ l))
unfolding insert_id
insert_cons x y l = refl

goes_after : (x z : Id) (l : List Id) → lt_id z x ≡ true → insert_id x (z ∷ l) ≡ z ∷ insert_id x l
goes_after x z l e = insert_cons x z l ∙ rw e

goes_first : (x z : Id) (l : List Id) → lt_id z x ≡ false → insert_id x (z ∷ l) ≡ x ∷ (z ∷ l)
goes_first x z l e = insert_cons x z l ∙ rw e

-- two that go in front of all others
two : (x y : Id) (l : List Id) → cond (lt_id y x) (y ∷ (x ∷ l)) (x ∷ (y ∷ l)) ≡ cond (lt_id x y) (x ∷ (y ∷ l)) (y ∷ (x ∷ l))
two x y l =
    by_cases (lt_id y x) (λ e. let f = lt_id_asym y x e in rw (e, f))
    (λ e. by_cases (lt_id x y) (λ f. rw (e, f)) (λ f. let h = same_of x y f e in rw (e, f) (ap (λ (k : Id). k ∷ (y ∷ l)) h ∙ ap (λ (k : Id). y ∷ (k ∷ l)) (sym h))))

in_front : (x y : Id) (l : List Id) → insert_id x l ≡ x ∷ l → insert_id x (y ∷ l) ≡ cond (lt_id y x) (y ∷ (x ∷ l)) (x ∷ (y ∷ l))
in_front x y l e = insert_cons x y l ∙ ap (λ (k : List Id). cond (lt_id y x) (y ∷ k) (x ∷ (y ∷ l))) e

swap_front : (x y : Id) (l : List Id) → insert_id x l ≡ x ∷ l → insert_id y l ≡ y ∷ l → insert_id x (insert_id y l) ≡ insert_id y (insert_id x l)
swap_front x y l e f = ap (insert_id x) f ∙ in_front x y l e ∙ two x y l ∙ sym (in_front y x l f) ∙ ap (insert_id y) (sym e)

-- x goes in front of z, and y behind it
swap_apart : (x y z : Id) (l : List Id) → lt_id z x ≡ false → lt_id z y ≡ true → insert_id x (insert_id y (z ∷ l)) ≡ insert_id y (insert_id x (z ∷ l))
swap_apart x y z l e f =
    ap (insert_id x) (goes_after y z l f)
    ∙ goes_first x z (insert_id y l) e
    ∙ ap (λ (k : List Id). x ∷ k) (sym (goes_after y z l f))
    ∙ sym (goes_after y x (z ∷ l) (before_too x z y e f))
    ∙ ap (insert_id y) (sym (goes_first x z l e))

pub insert_swap : (x y : Id) (l : List Id) → insert_id x (insert_id y l) ≡ insert_id y (insert_id x l)
insert_swap x y [] = swap_front x y [] (insert_nil x) (insert_nil y)
insert_swap x y (z ∷ l) =
    by_cases (lt_id z x)
    (λ e.
    by_cases (lt_id z y)
    (λ f.
    ap (insert_id x) (goes_after y z l f)
    ∙ goes_after x z (insert_id y l) e
    ∙ ap (λ (k : List Id). z ∷ k) (insert_swap x y l)
    ∙ sym (goes_after y z (insert_id x l) f)
    ∙ ap (insert_id y) (sym (goes_after x z l e)))
    (λ f. sym (swap_apart y x z l f e)))
    (λ e. by_cases (lt_id z y) (λ f. swap_apart x y z l e f) (λ f. swap_front x y (z ∷ l) (goes_first x z l e) (goes_first y z l f)))

-- ---- put in one by one

-- f 0, .., f (n - 1), each put in by its id
unfoldable pub ranked : (ℕ → Id) → ℕ → List Id
ranked f zero = []
ranked f (suc n) = insert_id (f n) (ranked f n)

-- a slot put anywhere into a list: its id is one more to sort
insert_any : (id : ℕ → Id) (lt : ℕ → ℕ → Bool) (x : ℕ) (l : List ℕ) → sorted (map id (insert_by lt x l)) ≡ insert_id (id x) (sorted (map id l))
unfolding insert_by sorted
insert_any id lt x [] = refl
insert_any id lt x (y ∷ ys) = go (lt x y) (insert_any id lt x ys)
  where
    go : (t : Bool) → sorted (map id (insert_by lt x ys)) ≡ insert_id (id x) (sorted (map id ys))
        → sorted (map id (cond t (x ∷ y ∷ ys) (y ∷ insert_by lt x ys))) ≡ insert_id (id x) (insert_id (id y) (sorted (map id ys)))
    go true r = refl
    go false r = ap (insert_id (id y)) r ∙ insert_swap (id y) (id x) (sorted (map id ys))

pub sorted_ranked : (id : ℕ → Id) (lt : ℕ → ℕ → Bool) (f : ℕ → ℕ) (n : ℕ) → sorted (map id (sort_at lt f n)) ≡ ranked (λ k. id (f k)) n
unfolding sort_at ranked sorted
sorted_ranked id lt f zero = refl
sorted_ranked id lt f (suc n) = insert_any id lt (f n) (sort_at lt f n) ∙ ap (insert_id (id (f n))) (sorted_ranked id lt f n)
