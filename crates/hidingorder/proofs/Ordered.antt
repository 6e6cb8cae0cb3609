-- A queue in order: nothing that stands behind goes before. Entering keeps it so; and since it is so, entering and taking commits out of the queue may
-- change places, also where what is taken out stood first behind the place of entry. Assumes nothing.
use mathlib.Core.Path.{◌≡◌, refl, sym, ◌∙◌, ap}
use mathlib.Core.Logic.{◌⊎◌, inl, inr, ⊎_elim}
use mathlib.Core.Bool.{Bool, true, false, cond}
use mathlib.Core.List.Memᴰ
use mathlib.Core.List.{List, [], ◌∷◌}
use native.Mathlib.Omega.{arith}
use lib.IntN.{ℤ, pos, negsuc}
use lib.Signed.{lt_z}
use borrow.Author.Tests.{ltb-true, ltb-false, lt-ltb}
use Rattle.hash.specs.Bytes.{Id}
use Rattle.hash.proofs.Tests.{by_cases, clash, not_yes}
use Rattle.walk.specs.declared.Settings.{Settings}
use Rattle.walk.specs.declared.Sorting.{Sorting}
use Rattle.walk.specs.declared.Sorting.TheVariants.{BreadthFirst, ByCommitTime, ByCommitTimeCutoff}
use Rattle.walk.specs.declared.CommitTimeOrder.{CommitTimeOrder}
use Rattle.walk.specs.declared.CommitTimeOrder.TheVariants.{NewestFirst, OldestFirst}
use Rattle.walk.specs.Settings.{by_time, taken_before, sooner, goes_before}
use Rattle.walk.specs.State.{ids, queued}
use Rattle.walk.specs.Next.{outside}
use Rattle.walk.specs.Reach.{Mem}
use Rattle.walk.proofs.Laws.{lt_z_asym}

-- ---- orders

-- what a queue's order has to have: of two never both go first, and what goes before one goes before all that do not go before that one
pub record Ranks (b : ℤ → ℤ → Bool) : Type 0 where
  pub one_way : (x y : ℤ) → b x y ≡ true → b y x ≡ false
  pub past : (x y z : ℤ) → b x y ≡ true → b z y ≡ false → b x z ≡ true

less_past : (x y z : ℤ) → lt_z x y ≡ true → lt_z z y ≡ false → lt_z x z ≡ true
less_past (pos x) (pos y) (pos z) p q = lt-ltb x z (omega (arith, ltb-true x y p, ltb-false z y q))
less_past (pos x) (pos y) (negsuc z) p q = clash refl q
less_past (pos x) (negsuc y) z p q = clash p refl
less_past (negsuc x) y (pos z) p q = refl
less_past (negsuc x) (pos y) (negsuc z) p q = clash refl q
less_past (negsuc x) (negsuc y) (negsuc z) p q = lt-ltb z x (omega (arith, ltb-true y x p, ltb-false y z q))

oldest_ranks : Ranks (taken_before OldestFirst)
unfolding taken_before
oldest_ranks = record { one_way = lt_z_asym; past = less_past }

newest_ranks : Ranks (taken_before NewestFirst)
unfolding taken_before
newest_ranks = record {
  one_way = λ x y p. lt_z_asym y x p;
  past = λ x y z p q. by_cases (lt_z z x) (λ e. e) (λ e. clash (less_past y x z p e) q);
}

time_ranks : (o : CommitTimeOrder) → Ranks (taken_before o)
time_ranks NewestFirst = newest_ranks
time_ranks OldestFirst = oldest_ranks

never_ranks : Ranks (λ x y. false)
never_ranks = record { one_way = λ x y p. clash p refl; past = λ x y z p q. clash p refl }

sorting_ranks : (s : Sorting) → Ranks (sooner s)
unfolding sooner
sorting_ranks BreadthFirst = never_ranks
sorting_ranks (ByCommitTime o) = time_ranks o
sorting_ranks (ByCommitTimeCutoff o c) = time_ranks o

-- every order of the settings has it
pub ranks : (s : Settings) → Ranks (goes_before s)
unfolding goes_before
ranks s = go (by_time s)
  where
    go : (t : Bool) → Ranks (λ x y. cond t (sooner s.sorting x y) false)
    go true = sorting_ranks s.sorting
    go false = never_ranks

-- ---- the queue

module _ (b : ℤ → ℤ → Bool) where
  abbrev pub Ordered : List (Id × ℤ) → Type 0
  Ordered [] = Unit {0}
  Ordered (x ∷ q) = ((y : Id × ℤ) → Mem y q → b y.1 x.1 ≡ false) × Ordered q

  queued-cases : (x : Id × ℤ) (q : List (Id × ℤ)) (y : Id × ℤ) → Mem y (queued b x q) → (y ≡ x) ⊎ Mem y q
  unfolding queued
  queued-cases x [] y m = Memᴰ.cases_cons m
  queued-cases x (z ∷ q) y m =
      by_cases (b x.1 z.1)
      (λ h. Memᴰ.cases_cons (rw h at m))
      (λ h. ⊎_elim (λ e. inr (Memᴰ.head e)) (λ k. ⊎_elim inl (λ r. inr (Memᴰ.tail r)) (queued-cases x q y k)) (Memᴰ.cases_cons (rw h at m)))

  module _ (r : Ranks b) where
    pub queued-ordered : (x : Id × ℤ) (q : List (Id × ℤ)) → Ordered q → Ordered (queued b x q)
    unfolding queued
    queued-ordered x [] o = (λ y m. absurd (Memᴰ.not-nil m), tt)
    queued-ordered x (z ∷ q) o =
        by_cases (b x.1 z.1)
        (λ h. rw h (
          λ y m. ⊎_elim (λ e. ap (λ (p : Id × ℤ). b p.1 x.1) e ∙ r.one_way x.1 z.1 h)
              (λ k. not_yes (λ e. clash (r.past y.1 x.1 z.1 e (r.one_way x.1 z.1 h)) (o.0 y k))) (Memᴰ.cases_cons m),
          o,
        ))
        (λ h. rw h (λ y m. ⊎_elim (λ e. ap (λ (p : Id × ℤ). b p.1 z.1) e ∙ h) (o.0 y) (queued-cases x q y m), queued-ordered x q o.1))

    -- ---- taking out

    outside-sub : (f : Id → Bool) (q : List (Id × ℤ)) (y : Id × ℤ) → Mem y (outside f q) → Mem y q
    unfolding outside
    outside-sub f [] y m = m
    outside-sub f (z ∷ q) y m =
        by_cases (f z.0)
        (λ h. Memᴰ.tail (outside-sub f q y (rw h at m)))
        (λ h. ⊎_elim (λ e. Memᴰ.head e) (λ k. Memᴰ.tail (outside-sub f q y k)) (Memᴰ.cases_cons (rw h at m)))

    -- what goes before all enters at the front
    queued-front : (x : Id × ℤ) (q : List (Id × ℤ)) → ((y : Id × ℤ) → Mem y q → b x.1 y.1 ≡ true) → queued b x q ≡ x ∷ q
    unfolding queued
    queued-front x [] h = refl
    queued-front x (y ∷ q) h = ap (λ (t : Bool). cond t (x ∷ (y ∷ q)) (y ∷ queued b x q)) (h y (Memᴰ.head refl))

    pub outside-queued : (f : Id → Bool) (x : Id × ℤ) (q : List (Id × ℤ)) → f x.0 ≡ false → Ordered q → outside f (queued b x q) ≡ queued b x (outside f q)
    unfolding queued outside
    outside-queued f x [] n o = rw n
    outside-queued f x (y ∷ q) n o =
        by_cases (f y.0)
        (λ h. by_cases (b x.1 y.1)
        (λ k. rw (k, n, h) (sym (queued-front x (outside f q) (λ z m. r.past x.1 y.1 z.1 k (o.0 z (outside-sub f q z m))))))
        (λ k. rw (k, h) (outside-queued f x q n o.1)))
        (λ h. by_cases (b x.1 y.1)
        (λ k. rw (k, n, h, k))
        (λ k. rw (k, h, k) (ap (λ (l : List (Id × ℤ)). y ∷ l) (outside-queued f x q n o.1))))

    -- what is taken out again might as well not have entered
    pub outside-gone : (f : Id → Bool) (x : Id × ℤ) (q : List (Id × ℤ)) → f x.0 ≡ true → outside f (queued b x q) ≡ outside f q
    unfolding queued outside
    outside-gone f x [] n = rw n
    outside-gone f x (y ∷ q) n =
        by_cases (b x.1 y.1)
        (λ k. rw (k, n))
        (λ k. by_cases (f y.0) (λ h. rw (k, h) (outside-gone f x q n)) (λ h. rw (k, h) (ap (λ (l : List (Id × ℤ)). y ∷ l) (outside-gone f x q n))))

-- sets that agree on a queue's ids take out the same
pub outside-same : (f g : Id → Bool) (q : List (Id × ℤ)) → ((x : Id) → Mem x (ids q) → f x ≡ g x) → outside f q ≡ outside g q
unfolding outside ids
outside-same f g [] h = refl
outside-same f g (x ∷ q) h =
    ap (λ (t : Bool). cond t (outside f q) (x ∷ outside f q)) (h x.0 (Memᴰ.head refl))
    ∙ ap (λ (l : List (Id × ℤ)). cond (g x.0) l (x ∷ l)) (outside-same f g q (λ y m. h y (Memᴰ.tail m)))

pub outside-first : (f : Id → Bool) (x : Id × ℤ) (q : List (Id × ℤ)) → f x.0 ≡ false → outside f (x ∷ q) ≡ x ∷ outside f q
unfolding outside
outside-first f x q n = ap (λ (t : Bool). cond t (outside f q) (x ∷ outside f q)) n

pub outside-none : (f : Id → Bool) → outside f [] ≡ []
unfolding outside
outside-none f = refl

pub outside-rest : (f : Id → Bool) (x : Id × ℤ) (q : List (Id × ℤ)) → f x.0 ≡ true → outside f (x ∷ q) ≡ outside f q
unfolding outside
outside-rest f x q n = ap (λ (t : Bool). cond t (outside f q) (x ∷ outside f q)) n
