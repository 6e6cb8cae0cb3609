-- The game by strategies is the game by turns. The cone follows the first parent that forces: every play then meets the list. And where the recursion says no,
-- there is against every strategy a play that stays off the list. Assumes nothing.
use mathlib.Core.Path.{◌≡◌, refl, sym, ◌∙◌, ap, subst}
use mathlib.Core.Logic.{◌⊎◌, inl, inr, ⊎_elim, ◌↔◌}
use Prim.Native.Nat.{ℕ, zero, suc}
use mathlib.Core.Bool.{Bool, true, false, cond}
use mathlib.Core.List.Memᴰ
use mathlib.Core.List.{List, [], ◌∷◌}
use native.Mathlib.Omega.{arith}
use Rattle.hash.specs.Bytes.{Id, among}
use Rattle.hash.proofs.Tests.{by_cases, clash, guard_test, guarded}
use Rattle.walk.specs.Lookup.{World}
use Rattle.walk.specs.Reach.{Mem, links}
use Rattle.moves.specs.Game.{any_of, all_of, some_and_all, coneForces, bedForced, forced}
use Rattle.moves.specs.Strategy.{Strategy, Play, over, stuck, cone-moves, bed-moves, Meets, Forces}
use Rattle.moves.proofs.Turns.{forced-listed, cone-turn, bed-turn}

-- ---- parents

-- the first parent that is such a one, else the last; with no parents, the commit x itself
unfoldable pick_from : (Id → Bool) → Id → List Id → Id
pick_from f p [] = p
pick_from f p (q ∷ qs) = cond (f p) p (pick_from f q qs)

unfoldable pick_of : (Id → Bool) → Id → List Id → Id
pick_of f x [] = x
pick_of f x (p ∷ ps) = pick_from f p ps

module _ (f : Id → Bool) where
  from-mem : (p : Id) (ps : List Id) → Mem (pick_from f p ps) (p ∷ ps)
  unfolding pick_from
  from-mem p [] = Memᴰ.head refl
  from-mem p (q ∷ qs) = go (f p) (from-mem q qs)
    where
      go : (b : Bool) → Mem (pick_from f q qs) (q ∷ qs) → Mem (cond b p (pick_from f q qs)) (p ∷ q ∷ qs)
      go true m = Memᴰ.head refl
      go false m = Memᴰ.tail m

  from-so : (p : Id) (ps : List Id) → any_of f (p ∷ ps) ≡ true → f (pick_from f p ps) ≡ true
  unfolding pick_from any_of
  from-so p [] e = by_cases (f p) (λ t. t) (λ t. clash e (ap (λ (b : Bool). cond b true false) t))
  from-so p (q ∷ qs) e = go (f p) refl e (from-so q qs)
    where
      go : (b : Bool) → f p ≡ b → cond b true (any_of f (q ∷ qs)) ≡ true → (any_of f (q ∷ qs) ≡ true → f (pick_from f q qs) ≡ true) → f (cond b p (pick_from f q qs)) ≡ true
      go true t y r = t
      go false t y r = r y

  pick-lawful : (x : Id) (l : List Id) → (l ≡ []) ⊎ Mem (pick_of f x l) l
  unfolding pick_of
  pick-lawful x [] = inl refl
  pick-lawful x (p ∷ ps) = inr (from-mem p ps)

  pick-so : (x : Id) (l : List Id) → any_of f l ≡ true → f (pick_of f x l) ≡ true
  unfolding pick_of any_of
  pick-so x [] e = clash e refl
  pick-so x (p ∷ ps) e = from-so p ps e

  any-mem : (l : List Id) → any_of f l ≡ false → (p : Id) → Mem p l → f p ≡ false
  unfolding any_of
  any-mem [] e p m = absurd (Memᴰ.not-nil m)
  any-mem (q ∷ qs) e p m = by_cases (f q)
      (λ t. clash (ap (λ (b : Bool). cond b true (any_of f qs)) t) e)
      (λ t. ⊎_elim (λ z. ap f z ∙ t) (λ z. any-mem qs (sym (ap (λ (b : Bool). cond b true (any_of f qs)) t) ∙ e) p z) (Memᴰ.cases_cons m))

  all-mem : (l : List Id) → all_of f l ≡ true → (p : Id) → Mem p l → f p ≡ true
  unfolding all_of
  all-mem [] e p m = absurd (Memᴰ.not-nil m)
  all-mem (q ∷ qs) e p m = ⊎_elim (λ z. ap f z ∙ guard_test (f q) (all_of f qs) e) (λ z. all-mem qs (guarded (f q) (all_of f qs) e) p z) (Memᴰ.cases_cons m)

  some-mem : (l : List Id) → some_and_all f l ≡ true → (p : Id) → Mem p l → f p ≡ true
  unfolding some_and_all
  some-mem [] e p m = absurd (Memᴰ.not-nil m)
  some-mem (q ∷ qs) e p m = all-mem (q ∷ qs) e p m

  -- one that is not
  record Not (l : List Id) : Type 0 where
    one : Id
    in_it : Mem one l
    is-not : f one ≡ false

  all-not : (l : List Id) → all_of f l ≡ false → Not l
  unfolding all_of
  all-not [] e = clash refl e
  all-not (q ∷ qs) e = by_cases (f q)
      (λ t. let r = all-not qs (sym (ap (λ (b : Bool). cond b (all_of f qs) false) t) ∙ e) in record { one = r.one; in_it = Memᴰ.tail r.in_it; is-not = r.is-not })
      (λ t. record { one = q; in_it = Memᴰ.head refl; is-not = t })

  some-not : (l : List Id) → some_and_all f l ≡ false → (l ≡ []) ⊎ Not l
  unfolding some_and_all
  some-not [] e = inl refl
  some-not (q ∷ qs) e = inr (all-not (q ∷ qs) e)

-- ---- the cone's strategy

module _ (w : World) (list : List Id) where
  unfoldable choose : ℕ → Id → Id
  choose zero x = pick_of (λ p. false) x (links w x)
  choose (suc d) x = pick_of (λ p. bedForced d w list p) x (links w x)

  chosen-lawful : (d : ℕ) (x : Id) → (links w x ≡ []) ⊎ Mem (choose d x) (links w x)
  unfolding choose
  chosen-lawful zero x = pick-lawful (λ p. false) x (links w x)
  chosen-lawful (suc d) x = pick-lawful (λ p. bedForced d w list p) x (links w x)

  unfoldable ours : Strategy w
  ours = record { choice = choose; lawful = chosen-lawful }

  at_once : {x : Id} (l : List Id) → among x list ≡ true → Meets list (x ∷ l)
  at_once {x} l e = record { commit = x; passed = Memᴰ.head refl; listed = e }

  later : {x : Id} {l : List Id} → Meets list l → Meets list (x ∷ l)
  later m = record { commit = m.commit; passed = Memᴰ.tail m.passed; listed = m.listed }

  stuck-not : (d : ℕ) (bed : Bool) (x : Id) → among x list ≡ false → links w x ≡ [] → forced w list bed (suc d) x ≡ false
  unfolding any_of some_and_all
  stuck-not d true x e s = bed-turn w list x e d ∙ ap (λ (l : List Id). some_and_all (λ p. coneForces d w list p) l) s
  stuck-not d false x e s = cone-turn w list x e d ∙ ap (λ (l : List Id). any_of (λ p. bedForced d w list p) l) s

  -- every play against it meets the list
  wins : (d : ℕ) (bed : Bool) (x : Id) (l : List Id) → Play w ours bed d x l → forced w list bed d x ≡ true → Meets list l
  unfolding choose ours coneForces
  wins zero true x l over e = at_once [] e
  wins zero false x l over e = at_once [] e
  wins (suc d) bed x l (stuck s) e = by_cases (among x list) (λ t. at_once [] t) (λ t. clash e (stuck-not d bed x t s))
  wins (suc d) false x l (cone-moves {l = r} m p) e = by_cases (among x list) (λ t. at_once r t)
      (λ t. later (wins d true (choose (suc d) x) r p (pick-so (λ q. bedForced d w list q) x (links w x) (sym (cone-turn w list x t d) ∙ e))))
  wins (suc d) true x l (bed-moves {p = q} {l = r} m p) e = by_cases (among x list) (λ t. at_once r t)
      (λ t. later (wins d false q r p (some-mem (λ q. coneForces d w list q) (links w x) (sym (bed-turn w list x t d) ∙ e) q m)))

-- ---- the bed's play against any strategy

-- a play that stays off the list
record Evades (w : World) (list : List Id) (s : Strategy w) (bed : Bool) (d : ℕ) (x : Id) : Type 0 where
  trail : List Id
  play : Play w s bed d x trail
  off : (c : Id) → Mem c trail → among c list ≡ false

module _ (w : World) (list : List Id) (s : Strategy w) where
  here-off : {x : Id} {l : List Id} → among x list ≡ false → ((c : Id) → Mem c l → among c list ≡ false) → (c : Id) → Mem c (x ∷ l) → among c list ≡ false
  here-off e h c m = ⊎_elim (λ z. ap (λ (y : Id). among y list) z ∙ e) (λ z. h c z) (Memᴰ.cases_cons m)

  alone : {x : Id} → among x list ≡ false → (c : Id) → Mem c (x ∷ []) → among c list ≡ false
  alone e = here-off e (λ c m. absurd (Memᴰ.not-nil m))

  not_listed : (bed : Bool) (d : ℕ) (x : Id) → forced w list bed d x ≡ false → among x list ≡ false
  not_listed bed d x e = by_cases (among x list) (λ t. clash (forced-listed w list bed d x t) e) (λ t. t)

  evades : (d : ℕ) (bed : Bool) (x : Id) → forced w list bed d x ≡ false → Evades w list s bed d x
  unfolding coneForces
  evades zero true x e = record { trail = x ∷ []; play = over; off = alone e }
  evades zero false x e = record { trail = x ∷ []; play = over; off = alone e }
  evades (suc d) false x e =
      let t : among x list ≡ false = not_listed false (suc d) x e in
      ⊎_elim (λ z. record { trail = x ∷ []; play = stuck z; off = alone t })
      (λ m. let r = evades d true (s.choice (suc d) x) (any-mem (λ p. bedForced d w list p) (links w x) (sym (cone-turn w list x t d) ∙ e) (s.choice (suc d) x) m) in
      record { trail = x ∷ r.trail; play = cone-moves m r.play; off = here-off t r.off })
      (s.lawful (suc d) x)
  evades (suc d) true x e =
      let t : among x list ≡ false = not_listed true (suc d) x e in
      ⊎_elim (λ z. record { trail = x ∷ []; play = stuck z; off = alone t })
      (λ m. let r = evades d false m.one m.is-not in record { trail = x ∷ r.trail; play = bed-moves m.in_it r.play; off = here-off t r.off })
      (some-not (λ p. coneForces d w list p) (links w x) (sym (bed-turn w list x t d) ∙ e))

-- ---- both ways

pub by_strategies : (w : World) (list : List Id) (bed : Bool) (d : ℕ) (x : Id) → (forced w list bed d x ≡ true) ↔ Forces w list bed d x
by_strategies w list bed d x = (
  λ e. record { strategy = ours w list; meets = λ l p. wins w list d bed x l p e },
  λ v. by_cases (forced w list bed d x) (λ t. t)
      (λ t. let r = evades w list v.strategy d bed x t in let m = v.meets r.trail r.play in clash m.listed (r.off m.commit m.passed)),
)
