-- One turn of the game, parent by parent: one parent decides it, or all of them together. Assumes nothing.
use mathlib.Core.Path.{◌≡◌, refl, sym, ◌∙◌, ap}
use Prim.Native.Nat.{ℕ, zero, suc, ◌+◌, ◌<◌, ◌≤◌}
use mathlib.Core.Bool.{Bool, true, false, cond}
use mathlib.Core.List.{List, [], ◌∷◌}
use native.Mathlib.Omega.{arith}
use lib.ListN.{length, get_or}
use lib.Dec.{ltb}
use borrow.Author.Tests.{lt-ltb}
use Rattle.hash.specs.Bytes.{Id, among}
use Rattle.walk.specs.Lookup.{World}
use Rattle.walk.specs.Reach.{links}
use Rattle.moves.specs.Game.{any_of, all_of, some_and_all, first_of, coneForces, bedForced, forced}

-- ---- parents, one by one

module _ (f : Id → Bool) where
  pub any_at : (l : List Id) (j : ℕ) → j < length l → f (get_or l j []) ≡ true → any_of f l ≡ true
  unfolding any_of
  any_at [] j h e = absurd (omega arith)
  any_at (p ∷ ps) zero h e = ap (λ (b : Bool). cond b true (any_of f ps)) e
  any_at (p ∷ ps) (suc j) h e = later (f p) (any_at ps j (omega arith) e)
    where
      later : (b : Bool) → any_of f ps ≡ true → cond b true (any_of f ps) ≡ true
      later true r = refl
      later false r = r

  pub any_none : (l : List Id) → ((j : ℕ) → j < length l → f (get_or l j []) ≡ false) → any_of f l ≡ false
  unfolding any_of
  any_none [] h = refl
  any_none (p ∷ ps) h = ap (λ (b : Bool). cond b true (any_of f ps)) (h zero (omega arith)) ∙ any_none ps (λ j l. h (suc j) (omega arith))

  pub all-at : (l : List Id) (j : ℕ) → j < length l → f (get_or l j []) ≡ false → all_of f l ≡ false
  unfolding all_of
  all-at [] j h e = absurd (omega arith)
  all-at (p ∷ ps) zero h e = ap (λ (b : Bool). cond b (all_of f ps) false) e
  all-at (p ∷ ps) (suc j) h e = later (f p) (all-at ps j (omega arith) e)
    where
      later : (b : Bool) → all_of f ps ≡ false → cond b (all_of f ps) false ≡ false
      later true r = r
      later false r = refl

  pub all-every : (l : List Id) → ((j : ℕ) → j < length l → f (get_or l j []) ≡ true) → all_of f l ≡ true
  unfolding all_of
  all-every [] h = refl
  all-every (p ∷ ps) h = ap (λ (b : Bool). cond b (all_of f ps) false) (h zero (omega arith)) ∙ all-every ps (λ j l. h (suc j) (omega arith))

  pub some_at : (l : List Id) (j : ℕ) → j < length l → f (get_or l j []) ≡ false → some_and_all f l ≡ false
  unfolding some_and_all
  some_at [] j h e = refl
  some_at (p ∷ ps) j h e = all-at (p ∷ ps) j h e

  pub some-every : (l : List Id) → ((j : ℕ) → j < length l → f (get_or l j []) ≡ true) → some_and_all f l ≡ ltb 0 (length l)
  unfolding some_and_all
  some-every [] h = refl
  some-every (p ∷ ps) h = all-every (p ∷ ps) h ∙ sym (lt-ltb 0 (length (p ∷ ps)) (omega arith))

  pub first-at : (l : List Id) (j : ℕ) → j < length l → f (get_or l j []) ≡ true → ((i : ℕ) → i < j → f (get_or l i []) ≡ false) → first_of f l ≡ j
  unfolding first_of
  first-at [] j h e n = absurd (omega arith)
  first-at (p ∷ ps) zero h e n = ap (λ (b : Bool). cond b 0 (suc (first_of f ps))) e
  first-at (p ∷ ps) (suc j) h e n =
      ap (λ (b : Bool). cond b 0 (suc (first_of f ps))) (n zero (omega arith)) ∙ ap suc (first-at ps j (omega arith) e (λ i l. n (suc i) (omega arith)))

  pub first-none : (l : List Id) → ((j : ℕ) → j < length l → f (get_or l j []) ≡ false) → first_of f l ≡ length l
  unfolding first_of
  first-none [] h = refl
  first-none (p ∷ ps) h = ap (λ (b : Bool). cond b 0 (suc (first_of f ps))) (h zero (omega arith)) ∙ ap suc (first-none ps (λ j l. h (suc j) (omega arith)))

-- some parent is such a one exactly where the first such one is a parent
module _ (f : Id → Bool) where
  pub any-first : (l : List Id) → first_of f l < length l → any_of f l ≡ true
  unfolding any_of first_of
  any-first [] h = absurd (omega arith)
  any-first (p ∷ ps) h = go (f p) refl h (any-first ps)
    where
      go : (b : Bool) → f p ≡ b → cond b 0 (suc (first_of f ps)) < suc (length ps) → (first_of f ps < length ps → any_of f ps ≡ true) → cond b true (any_of f ps) ≡ true
      go true e k r = refl
      go false e k r = r (omega arith)

  pub none_first : (l : List Id) → length l ≤ first_of f l → any_of f l ≡ false
  unfolding any_of first_of
  none_first [] h = refl
  none_first (p ∷ ps) h = go (f p) refl h (none_first ps)
    where
      go : (b : Bool) → f p ≡ b → suc (length ps) ≤ cond b 0 (suc (first_of f ps)) → (length ps ≤ first_of f ps → any_of f ps ≡ false) → cond b true (any_of f ps) ≡ false
      go true e k r = absurd (omega arith)
      go false e k r = r (omega arith)

-- ---- a turn

-- the bench that replies
abbrev pub other : Bool → Bool
other true = false
other false = true

-- what a turn comes to where no parent decides it
abbrev pub end_of : Bool → ℕ → Bool
end_of true n = ltb 0 n
end_of false n = false

module _ (w : World) (list : List Id) where
  pub forced-listed : (bed : Bool) (d : ℕ) (x : Id) → among x list ≡ true → forced w list bed d x ≡ true
  unfolding coneForces
  forced-listed true zero x e = e
  forced-listed true (suc d) x e = ap (λ (b : Bool). cond b true (some_and_all (λ p. coneForces d w list p) (links w x))) e
  forced-listed false zero x e = e
  forced-listed false (suc d) x e = ap (λ (b : Bool). cond b true (any_of (λ p. bedForced d w list p) (links w x))) e

  pub forced-still : (bed : Bool) (d : ℕ) (x : Id) → d ≡ 0 → forced w list bed d x ≡ among x list
  unfolding coneForces
  forced-still true zero x e = refl
  forced-still true (suc d) x e = absurd (omega arith)
  forced-still false zero x e = refl
  forced-still false (suc d) x e = absurd (omega arith)

  module _ (x : Id) (off : among x list ≡ false) where
    pub cone-turn : (e : ℕ) → coneForces (suc e) w list x ≡ any_of (λ p. bedForced e w list p) (links w x)
    unfolding coneForces
    cone-turn e = ap (λ (b : Bool). cond b true (any_of (λ p. bedForced e w list p) (links w x))) off

    pub bed-turn : (e : ℕ) → bedForced (suc e) w list x ≡ some_and_all (λ p. coneForces e w list p) (links w x)
    unfolding coneForces
    bed-turn e = ap (λ (b : Bool). cond b true (some_and_all (λ p. coneForces e w list p) (links w x))) off

    -- one parent decides it
    pub turn-found : (bed : Bool) (e j : ℕ) → j < length (links w x) → forced w list (other bed) e (get_or (links w x) j []) ≡ other bed → forced w list bed (suc e) x ≡ other bed
    turn-found true e j h z = bed-turn e ∙ some_at (λ p. coneForces e w list p) (links w x) j h z
    turn-found false e j h z = cone-turn e ∙ any_at (λ p. bedForced e w list p) (links w x) j h z

    -- no parent does
    pub turn-ended : (bed : Bool) (e : ℕ) → ((j : ℕ) → j < length (links w x) → forced w list (other bed) e (get_or (links w x) j []) ≡ bed)
        → forced w list bed (suc e) x ≡ end_of bed (length (links w x))
    turn-ended true e h = bed-turn e ∙ some-every (λ p. coneForces e w list p) (links w x) h
    turn-ended false e h = cone-turn e ∙ any_none (λ p. bedForced e w list p) (links w x) h
