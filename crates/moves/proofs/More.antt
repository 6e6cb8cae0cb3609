-- More moves never lose: what the cone forces within d moves it forces within d + 1, whichever bench is to move. Assumes nothing.
use mathlib.Core.Path.{◌≡◌, refl, sym, ◌∙◌, ap}
use Prim.Native.Nat.{ℕ, zero, suc}
use mathlib.Core.Bool.{Bool, true, false, cond}
use mathlib.Core.List.{List, [], ◌∷◌}
use Rattle.hash.specs.Bytes.{Id, among}
use Rattle.hash.proofs.Tests.{by_cases, clash, guard_test, guarded, guard_of}
use Rattle.walk.specs.Lookup.{World}
use Rattle.walk.specs.Reach.{links}
use Rattle.moves.specs.Game.{any_of, all_of, some_and_all, coneForces, bedForced, forced}
use Rattle.moves.proofs.Turns.{forced-listed, cone-turn, bed-turn}

-- one test implies another, parent by parent
module _ (f g : Id → Bool) (h : (p : Id) → f p ≡ true → g p ≡ true) where
  pub any-more : (l : List Id) → any_of f l ≡ true → any_of g l ≡ true
  unfolding any_of
  any-more [] e = e
  any-more (p ∷ ps) e = by_cases (f p)
      (λ t. ap (λ (b : Bool). cond b true (any_of g ps)) (h p t))
      (λ t. later (g p) (any-more ps (sym (ap (λ (b : Bool). cond b true (any_of f ps)) t) ∙ e)))
    where
      later : (b : Bool) → any_of g ps ≡ true → cond b true (any_of g ps) ≡ true
      later true r = refl
      later false r = r

  pub all_more : (l : List Id) → all_of f l ≡ true → all_of g l ≡ true
  unfolding all_of
  all_more [] e = e
  all_more (p ∷ ps) e = guard_of (g p) (all_of g ps) (h p (guard_test (f p) (all_of f ps) e)) (all_more ps (guarded (f p) (all_of f ps) e))

  pub some_more : (l : List Id) → some_and_all f l ≡ true → some_and_all g l ≡ true
  unfolding some_and_all
  some_more [] e = e
  some_more (p ∷ ps) e = all_more (p ∷ ps) e

pub more-moves : (w : World) (list : List Id) (d : ℕ) (bed : Bool) (x : Id) → forced w list bed d x ≡ true → forced w list bed (suc d) x ≡ true
unfolding coneForces
more-moves w list zero true x e = forced-listed w list true (suc zero) x e
more-moves w list zero false x e = forced-listed w list false (suc zero) x e
more-moves w list (suc d) true x e =
    by_cases (among x list) (λ t. forced-listed w list true (suc (suc d)) x t)
    (λ t. bed-turn w list x t (suc d) ∙ some_more (λ p. coneForces d w list p) (λ p. coneForces (suc d) w list p) (λ p q. more-moves w list d false p q) (links w x) (sym (bed-turn w list x t d) ∙ e))
more-moves w list (suc d) false x e =
    by_cases (among x list) (λ t. forced-listed w list false (suc (suc d)) x t)
    (λ t. cone-turn w list x t (suc d) ∙ any-more (λ p. bedForced d w list p) (λ p. bedForced (suc d) w list p) (λ p q. more-moves w list d true p q) (links w x) (sym (cone-turn w list x t d) ∙ e))
