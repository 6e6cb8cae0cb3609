-- Painting's weight, what is queued and the marks that ids lack: a turn takes one commit from the queue, and each that it queues has gained a
-- mark that it lacked, so the weight falls.
-- Assumes nothing.
use mathlib.Core.Path.{◌≡◌, refl, ◌∙◌, ap}
use mathlib.Core.Logic.{⊎_elim}
use Prim.Native.Nat.{ℕ, suc, ◌+◌, ◌*◌, ◌≤◌, ◌<◌}
use mathlib.Core.Bool.{Bool, true, false, not, ◌&&◌, ◌||◌}
use mathlib.Core.List.Memᴰ
use mathlib.Core.List.{List, [], ◌∷◌, Memᴰ}
use native.Mathlib.Omega.{arith}
use lib.ListN.{length}
use Rattle.hash.specs.Bytes.{Id, lt_id}
use Rattle.walk.specs.Lookup.{World, Pair, Read, fail, good, read, lt_pair}
use Rattle.walk.specs.Painting.{mark_all, sorted, insert_id, also, add_pending, Paint, going, Marks, then, mark_read, mark, lacks, pass, passed, with_pending, turn, fresh}
use Rattle.walk.specs.Reach.{Mem}
use Rattle.hash.proofs.Tests.{by_cases, or_cases, and_both}
use Rattle.walk.proofs.Laws.{also-keeps, also_self, lack, lack_le, lack_lt, not_yes_no}
use Rattle.walk.proofs.Painting.{kids}

-- how many marks a commit lacks, and how many the commits of a list lack
unfoldable pub missing : Paint → Id → ℕ
missing st u = lack (st.vis u) + lack (st.hid u) + lack (st.stale u)

unfoldable pub total : Paint → List Id → ℕ
total st [] = 0
total st (u ∷ us) = missing st u + total st us

unfoldable pub weight : List Id → Paint → ℕ
weight us st = length st.pending + total st us

total_le : (st st' : Paint) (us : List Id) → ((u : Id) → missing st' u ≤ missing st u) → total st' us ≤ total st us
unfolding total
total_le st st' [] h = omega arith
total_le st st' (u ∷ us) h = omega (arith, h u, total_le st st' us h)

total_lt : (st st' : Paint) (us : List Id) (x : Id) → ((u : Id) → missing st' u ≤ missing st u) → Mem x us → missing st' x < missing st x → total st' us < total st us
unfolding total
total_lt st st' [] x h m l = absurd (Memᴰ.not-nil m)
total_lt st st' (u ∷ us) x h m l =
    ⊎_elim
    (λ e. let l' : missing st' u < missing st u = rw e at l in omega (arith, total_le st st' us h))
    (λ k. omega (arith, h u, total_lt st st' us x h k l))
    (Memᴰ.cases_cons m)

pub length_add_pending : (p : Pair) (x : Id) (q : List (Pair × Id)) → length (add_pending p x q) ≡ suc (length q)
unfolding add_pending
length_add_pending p x [] = refl
length_add_pending p x (y ∷ ys) = by_cases (lt_pair y.0 p) (λ h. rw h) (λ h. rw (h, length_add_pending p x ys))

-- x gets marks of which it lacks one, and is queued
module _ (us : List Id) (m : Marks) (x : Id) (p : Pair) (st : Paint) (in-us : Mem x us) (l : lacks m x st ≡ true) where
  st₁ : Paint
  st₁ = record {
    vis = also m.v st.vis x;
    hid = also m.h st.hid x;
    stale = also m.s st.stale x;
    pending = add_pending p x st.pending;
  }

  no_more : (u : Id) → missing st₁ u ≤ missing st u
  unfolding missing st₁
  no_more u =
      omega (
        arith,
        lack_le (st.vis u) (st₁.vis u) (also-keeps m.v st.vis x u),
        lack_le (st.hid u) (st₁.hid u) (also-keeps m.h st.hid x u),
        lack_le (st.stale u) (st₁.stale u) (also-keeps m.s st.stale x u),
      )

  fewer : missing st₁ x < missing st x
  unfolding missing st₁ lacks
  fewer =
      let a = lack_le (st.vis x) (st₁.vis x) (also-keeps m.v st.vis x x) in
      let b = lack_le (st.hid x) (st₁.hid x) (also-keeps m.h st.hid x x) in
      let c = lack_le (st.stale x) (st₁.stale x) (also-keeps m.s st.stale x x) in
      ⊎_elim
      (λ k. ⊎_elim
      (λ h. let t : (m.v ≡ true) × (not (st.vis x) ≡ true) = and_both h in
      omega (arith, b, c, lack_lt (st.vis x) (st₁.vis x) (not_yes_no _ t.1) (also_self m.v st.vis x t.0)))
      (λ h. let t : (m.h ≡ true) × (not (st.hid x) ≡ true) = and_both h in
      omega (arith, a, c, lack_lt (st.hid x) (st₁.hid x) (not_yes_no _ t.1) (also_self m.h st.hid x t.0)))
      (or_cases {a = m.v && not (st.vis x)} {b = m.h && not (st.hid x)} k))
      (λ h. let t : (m.s ≡ true) × (not (st.stale x) ≡ true) = and_both h in
      omega (arith, a, b, lack_lt (st.stale x) (st₁.stale x) (not_yes_no _ t.1) (also_self m.s st.stale x t.0)))
      (or_cases {a = m.v && not (st.vis x) || m.h && not (st.hid x)} {b = m.s && not (st.stale x)} l)

  lighter : weight us st₁ ≤ weight us st
  unfolding weight st₁
  lighter = omega (arith, length_add_pending p x st.pending, total_lt st st₁ us x no_more in-us fewer)

pub pass_weight : (w : World) (us : List Id) (m : Marks) (xs : List Id) (st st' : Paint) → ((x : Id) → Mem x xs → Mem x us)
    → pass w m xs st ≡ going st' → weight us st' ≤ weight us st
unfolding pass then mark mark_read st₁
pass_weight w us m [] st st' i e = let k : st ≡ st' = cc in omega (arith, ap (weight us) k)
pass_weight w us m (x ∷ xs) st st' i e =
    by_cases (lacks m x st)
    (λ h. go (λ st₂ f. pass_weight w us m xs st₂ st' (λ y k. i y (Memᴰ.tail k)) f) (read w x) h (rw h at e))
    (λ h. pass_weight w us m xs st st' (λ y k. i y (Memᴰ.tail k)) (rw h at e))
  where
    go : ((st₂ : Paint) → pass w m xs st₂ ≡ going st' → weight us st' ≤ weight us st₂) → (r : Read) → lacks m x st ≡ true
        → then (mark_read m x st r) (λ st₂. pass w m xs st₂) ≡ going st' → weight us st' ≤ weight us st
    go rec (fail n) h f = let z : ◌≡◌ {A = ℕ} 0 1 = cc in omega arith
    go rec (good ps p) h f = omega (arith, rec (st₁ us m x p st (i x (Memᴰ.head refl)) h) f, lighter us m x p st (i x (Memᴰ.head refl)) h)

pub total-pending : (st : Paint) (q : List (Pair × Id)) (us : List Id) → total (with_pending q st) us ≡ total st us
unfolding total missing with_pending
total-pending st q [] = refl
total-pending st q (u ∷ us) = rw (total-pending st q us)

-- a turn makes it lighter
pub turn_weight : (w : World) (us : List Id) (st st' : Paint) (q : Pair × Id) (qs : List (Pair × Id)) → st.pending ≡ q ∷ qs
    → ((x : Id) → Mem x (kids w q.1) → Mem x us) → turn w st (q ∷ qs) ≡ going st' → weight us st' < weight us st
unfolding turn weight with_pending
turn_weight w us st st' q qs is i e =
    let a : weight us st' ≤ weight us (with_pending qs st) = pass_weight w us (passed st q.1) (kids w q.1) (with_pending qs st) st' i e in
    let b : total (with_pending qs st) us ≡ total st us = total-pending st qs us in
    omega (arith, a, b, ap length is)

-- ---- before the first turn

pub total_bound : (st : Paint) (us : List Id) → total st us ≤ 3 * length us
unfolding total missing
total_bound st [] = omega arith
total_bound st (u ∷ us) = omega (arith, most (st.vis u), most (st.hid u), most (st.stale u), total_bound st us)
  where
    most : (b : Bool) → lack b ≤ 1
    most true = omega arith
    most false = omega arith

pub mark_all_length : (w : World) (m : Marks) (xs : List Id) (st st' : Paint) → mark_all w m xs st ≡ going st'
    → length st'.pending ≡ length st.pending + length xs
unfolding mark_all then mark mark_read
mark_all_length w m [] st st' e = let k : st ≡ st' = cc in omega (arith, ap (λ (t : Paint). length t.pending) k)
mark_all_length w m (x ∷ xs) st st' e = go (λ st₂ f. mark_all_length w m xs st₂ st' f) (read w x) e
  where
    go : ((st₂ : Paint) → mark_all w m xs st₂ ≡ going st' → length st'.pending ≡ length st₂.pending + length xs) → (r : Read)
        → then (mark_read m x st r) (λ st₂. mark_all w m xs st₂) ≡ going st' → length st'.pending ≡ length st.pending + length (x ∷ xs)
    go rec (fail n) f = let z : ◌≡◌ {A = ℕ} 0 1 = cc in absurd (omega arith)
    go rec (good ps p) f = omega (arith, rec _ f, length_add_pending p x st.pending)

length_insert : (x : Id) (l : List Id) → length (insert_id x l) ≡ suc (length l)
unfolding insert_id
length_insert x [] = refl
length_insert x (y ∷ ys) = by_cases (lt_id y x) (λ h. rw (h, length_insert x ys)) (λ h. rw h)

pub length_sorted : (l : List Id) → length (sorted l) ≡ length l
unfolding sorted
length_sorted [] = refl
length_sorted (x ∷ xs) = length_insert x (sorted xs) ∙ ap suc (length_sorted xs)

-- an empty queue keeps no loop going
pub fresh-none : (f : Id → Bool) (q : List (Pair × Id)) → length q ≤ 0 → fresh f q ≡ false
unfolding fresh
fresh-none f [] l = refl
fresh-none f (q ∷ qs) l = absurd (omega arith)
