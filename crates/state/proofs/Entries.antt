-- Lists of waiting slots as lists of entries: where the entries are the same the lists are, a slot put in is its entry put in, and a first
-- entry is that of a first slot. Assumes nothing.
use mathlib.Core.Path.{◌≡◌, refl, ap, ◌∙◌}
use mathlib.Core.Logic.{inl, inr}
use Prim.Native.Nat.{ℕ, suc}
use mathlib.Core.Bool.{Bool, true, false, cond}
use mathlib.Core.List.{List, [], ◌∷◌, map}
use native.Mathlib.Omega.{arith}
use lib.ListN.{length}
use lib.IntN.{ℤ}
use Rattle.hash.specs.Bytes.{Id}
use Rattle.revwalk.specs.Order.{insert_by, In}
use Rattle.walk.specs.State.{queued}

pub map_agree : {B : Type 0} (f g : ℕ → B) (l : List ℕ) → ((z : ℕ) → In z l → f z ≡ g z) → map f l ≡ map g l
unfolding In
map_agree f g [] h = refl
map_agree {B} f g (y ∷ ys) h = ap (λ (b : B). b ∷ map f ys) (h y (inl refl)) ∙ ap (λ (r : List B). g y ∷ r) (map_agree f g ys (λ z i. h z (inr i)))

pub map_insert : (e : ℕ → Id × ℤ) (lt : ℕ → ℕ → Bool) (b : ℤ → ℤ → Bool) (x : ℕ) → ((y : ℕ) → lt x y ≡ b (e x).1 (e y).1) → (l : List ℕ)
    → map e (insert_by lt x l) ≡ queued b (e x) (map e l)
unfolding insert_by queued
map_insert e lt b x h [] = refl
map_insert e lt b x h (y ∷ ys) = go (lt x y) (b (e x).1 (e y).1) (h y) (map_insert e lt b x h ys)
  where
    go : (t s : Bool) → t ≡ s → map e (insert_by lt x ys) ≡ queued b (e x) (map e ys)
        → map e (cond t (x ∷ y ∷ ys) (y ∷ insert_by lt x ys)) ≡ cond s (e x ∷ (e y ∷ map e ys)) (e y ∷ queued b (e x) (map e ys))
    go true s p r = rw (← p)
    go false s p r = rw (← p) (ap (λ (l : List (Id × ℤ)). e y ∷ l) r)

-- the slots w begin with one whose entry is b, and l are the entries of the others
pub record Split (e : ℕ → Id × ℤ) (w : List ℕ) (b : Id × ℤ) (l : List (Id × ℤ)) : Type 0 where
  pub slot : ℕ
  pub others : List ℕ
  pub is : w ≡ slot ∷ others
  pub first : e slot ≡ b
  pub rest : map e others ≡ l

heads : {B : Type 0} {a b : B} {l m : List B} → a ∷ l ≡ b ∷ m → a ≡ b
heads e = cc

tails : {B : Type 0} {a b : B} {l m : List B} → a ∷ l ≡ b ∷ m → l ≡ m
tails e = cc

pub split : (e : ℕ → Id × ℤ) (w : List ℕ) (b : Id × ℤ) (l : List (Id × ℤ)) → map e w ≡ b ∷ l → Split e w b l
split e [] b l p = let q : 0 ≡ suc (length l) = ap length p in absurd (omega arith)
split e (s ∷ w) b l p = record { slot = s; others = w; is = refl; first = heads p; rest = tails p }

pub none_left : (e : ℕ → Id × ℤ) (w : List ℕ) → map e w ≡ [] → w ≡ []
none_left e [] p = refl
none_left e (s ∷ w) p = let q : suc (length (map e w)) ≡ 0 = ap length p in absurd (omega arith)
