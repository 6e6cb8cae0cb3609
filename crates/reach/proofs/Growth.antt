-- The search over lists: what is read leads only into the list, so a list that has the roots and is read to its end has all that they reach.
-- Assumes nothing.
use mathlib.Core.Path.{◌≡◌, refl, sym, ◌∙◌, subst}
use mathlib.Core.Logic.{◌⊎◌, inl, inr, ⊎_elim}
use Prim.Native.Nat.{ℕ, suc, ◌≤◌, ◌<◌}
use mathlib.Core.List.Memᴰ
use mathlib.Core.List.{List, [], ◌∷◌, ◌++◌}
use native.Mathlib.Omega.{arith}
use native.Mathlib.Nat.{eq-or-lt_of_le}
use lib.ListN.{length, get_or, length-append, get_or-append}
use Rattle.hash.specs.Bytes.{Id, among, eq_id}
use Rattle.hash.proofs.Tests.{by_cases, clash}
use Rattle.hash.proofs.Ids.{eq_id_eq, eq_id-same}
use Rattle.walk.specs.Lookup.{World}
use Rattle.walk.specs.Reach.{Mem, NoDup, empty, more, links, Reaches, itself, through}
use Rattle.walk.specs.Demand.{Readable}
use Rattle.walk.proofs.Open.{among-mem, mem-among}
use Rattle.walk.proofs.Take.{reach_on}
use Rattle.reach.specs.Search.{ReachedBy, Reached, Grows, Growing, ReadableTo, AllReadable}

-- ---- lists of ids

pub same_id? : (x y : Id) → (x ≡ y) ⊎ (x ≡ y → ⊥)
same_id? x y = by_cases (eq_id x y) (λ e. inl (eq_id_eq x y e)) (λ e. inr (λ q. clash (eq_id-same x y q) e))

pub mem? : (x : Id) (l : List Id) → Mem x l ⊎ (Mem x l → ⊥)
mem? x l = by_cases (among x l) (λ e. inl (among-mem x l e)) (λ e. inr (λ m. clash (mem-among x l m) e))

-- a test of each id of a list
pub each? : (Q : Id → Type 0) → ((x : Id) → Q x ⊎ (Q x → ⊥)) → (l : List Id) → ((x : Id) → Mem x l → Q x) ⊎ ((x : Id) × Mem x l × (Q x → ⊥))
each? Q d [] = inl (λ x m. absurd (Memᴰ.not-nil m))
each? Q d (y ∷ l) = ⊎_elim
    (λ q. ⊎_elim
    (λ a. inl (λ x m. ⊎_elim (λ e. subst Q (sym e) q) (a x) (Memᴰ.cases_cons m)))
    (λ b. inr (b.0, Memᴰ.tail b.1, b.2))
    (each? Q d l))
    (λ n. inr (y, Memᴰ.head refl, n))
    (d y)

-- where a member stands
pub place_of : (x : Id) (l : List Id) → Mem x l → (i : ℕ) × (i < length l) × (get_or l i [] ≡ x)
place_of x [] m = absurd (Memᴰ.not-nil m)
place_of x (y ∷ l) m =
    ⊎_elim
    (λ e. (0, omega arith, sym e))
    (λ k. let r = place_of x l k in (suc r.0, omega (arith, r.1), r.2))
    (Memᴰ.cases_cons m)

pub mem-end : (x : Id) (l : List Id) → Mem x (l ++ (x ∷ []))
mem-end x l = Memᴰ.append_right l (Memᴰ.head refl)

pub nodup_end : {x : Id} {l : List Id} → NoDup l → (Mem x l → ⊥) → NoDup (l ++ (x ∷ []))
nodup_end {x} empty n = more Memᴰ.not-nil empty
nodup_end {x} (more {x = y} {l = l} k d) n =
    more
    (λ m. ⊎_elim k (λ j. n (Memᴰ.head (sym (Memᴰ.eq_of_singleton j)))) (Memᴰ.append_cases l m))
    (nodup_end d (λ m. n (Memᴰ.tail m)))

-- ---- noting

pub grows_none : (l : List Id) → Grows l [] l
grows_none l = record { in_it = λ x m. absurd (Memᴰ.not-nil m); cases = λ x m. inl m; keeps = λ x m. m; place = λ i h. refl; long = omega arith }

pub grows-known : {l : List Id} {x : Id} → Mem x l → Grows l (x ∷ []) l
grows-known {l} {x} m = record { in_it = λ y k. subst (λ (z : Id). Mem z l) (sym (Memᴰ.eq_of_singleton k)) m; cases = λ y k. inl k; keeps = λ y k. k; place = λ i h. refl; long = omega arith }

pub grows-new : (l : List Id) (x : Id) → Grows l (x ∷ []) (l ++ (x ∷ []))
grows-new l x = record {
  in_it = λ y k. Memᴰ.append_right l k;
  cases = λ y k. Memᴰ.append_cases l k;
  keeps = λ y k. Memᴰ.append_left (x ∷ []) k;
  place = λ i h. get_or-append l (x ∷ []) [] i h;
  long = omega (arith, length-append l (x ∷ []));
}

pub grows_then : {l xs l₁ ys l₂ : List Id} → Grows l xs l₁ → Grows l₁ ys l₂ → Grows l (xs ++ ys) l₂
grows_then {l} {xs} {l₁} {ys} {l₂} a b = record {
  in_it = λ x m. ⊎_elim (λ k. b.keeps x (a.in_it x k)) (b.in_it x) (Memᴰ.append_cases xs m);
  cases = λ x m. ⊎_elim (λ k. ⊎_elim inl (λ j. inr (Memᴰ.append_left ys j)) (a.cases x k)) (λ k. inr (Memᴰ.append_right xs k)) (b.cases x m);
  keeps = λ x m. b.keeps x (a.keeps x m);
  place = λ i h. b.place i (omega (arith, a.long)) ∙ a.place i h;
  long = omega (arith, a.long, b.long);
}

-- ---- the search grows

pub last-place : (i k : ℕ) → i < suc k → (i < k) ⊎ (i ≡ k)
last-place i k j = ⊎_elim (λ e. inr e) (λ l. inl l) (eq-or-lt_of_le le)
  where
    le : i ≤ k
    le = omega arith

module _ {w : World} {roots : List Id} where
  pub grow-none : Growing w roots [] 0
  grow-none = record {
    once = empty;
    sound = λ x m. absurd (Memᴰ.not-nil m);
    read = omega arith;
    closed = λ i h. absurd (omega arith);
  }

  -- ids that are reached are noted
  pub grow-more : {l xs l' : List Id} {k : ℕ} → Growing w roots l k → Grows l xs l' → NoDup l' → ((x : Id) → Mem x xs → ReachedBy w roots x) → Growing w roots l' k
  grow-more a g d r = record {
    once = d;
    sound = λ x m. ⊎_elim (a.sound x) (r x) (g.cases x m);
    read = omega (arith, a.read, g.long);
    closed = λ i h p m. g.keeps p (a.closed i h p (subst (λ (z : Id). Mem p (links w z)) (g.place i (omega (arith, a.read))) m));
  }

  pub grow-read : {l : List Id} {k : ℕ} → Growing w roots l k → k < length l → ((p : Id) → Mem p (links w (get_or l k [])) → Mem p l) → Growing w roots l (suc k)
  grow-read {l} {k} g h c = record {
    once = g.once;
    sound = g.sound;
    read = omega arith;
    closed = λ i j p m. ⊎_elim (λ o. g.closed i o p m) (λ e. c p (subst (λ (a : ℕ). Mem p (links w (get_or l a []))) e m)) (last-place i k j);
  }

  -- what the commit in hand leads to is reached
  pub reached-on : {x p : Id} → ReachedBy w roots x → Mem p (links w x) → ReachedBy w roots p
  reached-on {x} {p} r m = record { root = r.root; lent = r.lent; reaches = reach_on w x p r.root r.reaches m }

  pub root-reached : {x : Id} → Mem x roots → ReachedBy w roots x
  root-reached {x} m = record { root = x; lent = m; reaches = itself refl }

  -- the end
  pub grow-done : {l : List Id} {k : ℕ} → Growing w roots l k → length l ≤ k → ((x : Id) → Mem x roots → Mem x l) → Reached w roots l
  grow-done {l} {k} g h i = record { once = g.once; sound = g.sound; complete = λ x r. from x r.root (i r.root r.lent) r.reaches }
    where
      from : (x t : Id) → Mem t l → Reaches w x t → Mem x l
      from x t m (itself e) = subst (λ (a : Id). Mem a l) e m
      from x t m (through {p = p} j r) =
          let o = place_of t l m in
          from x p (g.closed o.0 (omega (arith, o.1)) p (subst (λ (a : Id). Mem p (links w a)) (sym o.2) j)) r

  -- and all of it is readable, where all that was read is
  pub grow-readable : {l : List Id} {k : ℕ} → ReadableTo w l k → length l ≤ k → Reached w roots l → AllReadable w roots
  unfolding AllReadable
  grow-readable {l} {k} g h c x r =
      let o = place_of x l (c.complete x r) in
      subst (Readable w) o.2 (g.each o.0 (omega (arith, o.1)))

module _ {w : World} {l : List Id} {k : ℕ} (g : ReadableTo w l k) where
  pub readable-more : {xs l' : List Id} → k ≤ length l → Grows l xs l' → ReadableTo w l' k
  readable-more h o = record { each = λ i j. subst (Readable w) (sym (o.place i (omega arith))) (g.each i j) }

  pub readable-read : Readable w (get_or l k []) → ReadableTo w l (suc k)
  readable-read r = record { each = λ i j. ⊎_elim (λ o. g.each i o) (λ e. subst (λ (a : ℕ). Readable w (get_or l a [])) (sym e) r) (last-place i k j) }
