-- Lists of slots in an order: what stands in a queue's list is in the order of its places, so what is put in again, one after the other, goes
-- to the end each time, since none goes strictly before an earlier one. Assumes nothing.
use mathlib.Core.Path.{◌≡◌, refl, sym, ap, ◌∙◌, subst}
use mathlib.Core.Logic.{◌⊎◌, inl, inr, ⊎_elim}
use mathlib.Core.List.{List, [], ◌∷◌, ◌++◌, map}
use mathlib.Core.Bool.{Bool, true, false, cond, not}
use Prim.Native.Nat.{ℕ, zero, suc, ◌<◌, ◌≤◌}
use native.Mathlib.Omega.{arith}
use lib.ListN.{length, length-append}
use lib.IntN.{ℤ}
use lib.Dec.{eqb}
use borrow.Author.Tests.{eqb-true, eq-eqb, not-true}
use Rattle.hash.specs.Bytes.{Id}
use Rattle.hash.proofs.Tests.{by_cases, clash}
use Rattle.revwalk.specs.declared.queue.Queue.{Queue}
use Rattle.revwalk.specs.Order.{at, ahead, goes, never, insert_by, listed, In, Once}
use Rattle.revwalk.specs.Queue.{before, queued, slots_of, GoodQueue}
use Rattle.revwalk.proofs.QueueSorts.{Rises, Place, same?, rises-sort}
use Rattle.revwalk.proofs.QueueOrders.{goes-no, goes-trans, total}
use Rattle.revwalk.proofs.QueueGood.{either, before-timed, before-ring, slots-timed}
use Rattle.revwalk.proofs.QueueSlots.{slots-low, slots-once}
use Rattle.walk.specs.Next.{outside}
use Rattle.refill.specs.Inner.{without, InOrder}

-- ---- members

in_front : (z : ℕ) (l m : List ℕ) → In z l → In z (l ++ m)
unfolding In
in_front z [] m h = absurd h
in_front z (y ∷ ys) m h = ⊎_elim (λ e. inl e) (λ i. inr (in_front z ys m i)) h

in_end : (x : ℕ) (l : List ℕ) → In x (l ++ (x ∷ []))
unfolding In
in_end x [] = inl refl
in_end x (y ∷ ys) = inr (in_end x ys)

end_in : (z x : ℕ) (l : List ℕ) → In z (l ++ (x ∷ [])) → In z l ⊎ (z ≡ x)
unfolding In
end_in z x [] h = ⊎_elim (λ e. inr e) (λ i. absurd i) h
end_in z x (y ∷ ys) h = ⊎_elim (λ e. inl (inl e)) (λ i. ⊎_elim (λ j. inl (inr j)) (λ e. inr e) (end_in z x ys i)) h

pub in_listed : (f : ℕ → ℕ) (n k : ℕ) → k < n → In (f k) (listed f n)
unfolding listed
in_listed f zero k h = absurd (omega arith)
in_listed f (suc n) k h =
    ⊎_elim
    (λ e. subst (λ (i : ℕ). In (f i) (listed f n ++ (f n ∷ []))) (sym e) (in_end (f n) (listed f n)))
    (λ d. in_front (f k) (listed f n) (f n ∷ []) (in_listed f n k (omega (arith, d))))
    (same? k n)

pub length_listed : (f : ℕ → ℕ) (n : ℕ) → length (listed f n) ≡ n
unfolding listed
length_listed f zero = refl
length_listed f (suc n) = length-append (listed f n) (f n ∷ []) ∙ (let p = length_listed f n in omega arith)

pub listed_agree : (f g : ℕ → ℕ) (n : ℕ) → ((k : ℕ) → k < n → f k ≡ g k) → listed f n ≡ listed g n
unfolding listed
listed_agree f g zero h = refl
listed_agree f g (suc n) h =
    let p = listed_agree f g n (λ k l. h k (omega arith)) in
    let q = h n (omega arith) in
    cc

-- ---- lists that rise

rises-front : (lt : ℕ → ℕ → Bool) (l m : List ℕ) → Rises lt (l ++ m) → Rises lt l
unfolding Rises
rises-front lt [] m r = tt
rises-front lt (y ∷ ys) m r = ((λ z h. r.0 z (in_front z ys m h)), rises-front lt ys m r.1)

rises-end : (lt : ℕ → ℕ → Bool) (x : ℕ) (l : List ℕ) → Rises lt (l ++ (x ∷ [])) → (z : ℕ) → In z l → lt z x ≡ true
unfolding Rises In
rises-end lt x [] r z h = absurd h
rises-end lt x (y ∷ ys) r z h = ⊎_elim (λ e. subst (λ (w : ℕ). lt w x ≡ true) (sym e) (r.0 x (in_end x ys))) (rises-end lt x ys r.1 z) h

rises-listed : (lt : ℕ → ℕ → Bool) (f : ℕ → ℕ) (n : ℕ) → Rises lt (listed f n) → (i j : ℕ) → i < j → j < n → lt (f i) (f j) ≡ true
unfolding listed
rises-listed lt f zero r i j a b = absurd (omega arith)
rises-listed lt f (suc n) r i j a b =
    ⊎_elim
    (λ e. subst (λ (k : ℕ). lt (f i) (f k) ≡ true) (sym e) (rises-end lt (f n) (listed f n) r (f i) (in_listed f n i (omega arith))))
    (λ d. rises-listed lt f n (rises-front lt (listed f n) (f n ∷ []) r) i j a (omega (arith, d)))
    (same? j n)

rises_as : (lt lt' : ℕ → ℕ → Bool) (l : List ℕ) → ((a b : ℕ) → lt a b ≡ true → lt' a b ≡ true) → Rises lt l → Rises lt' l
unfolding Rises
rises_as lt lt' [] h r = tt
rises_as lt lt' (y ∷ ys) h r = ((λ z i. h y z (r.0 z i)), rises_as lt lt' ys h r.1)

rises-all : (lt : ℕ → ℕ → Bool) (l : List ℕ) → ((a b : ℕ) → lt a b ≡ true) → Rises lt l
unfolding Rises
rises-all lt [] h = tt
rises-all lt (y ∷ ys) h = ((λ z i. h y z), rises-all lt ys h)

-- different ones, as an order
abbrev apart : ℕ → ℕ → Bool
apart a b = not (eqb a b)

once-rises : (l : List ℕ) → Once l → Rises apart l
unfolding Rises Once
once-rises [] o = tt
once-rises (y ∷ ys) o =
    ((λ z h. by_cases (eqb y z) (λ e. absurd (o.0 (subst (λ (w : ℕ). In w ys) (sym (eqb-true y z e)) h))) (λ e. ap not e)), once-rises ys o.1)

-- ---- the list of a queue

-- b does not go strictly before a by its seconds alone
abbrev steady : (ℕ → ℕ → Bool) → ℕ → ℕ → Bool
steady lt a b = not (lt b a)

module _ {q : Queue} {times : List ℤ} {line : List ℕ} (g : GoodQueue q times line) where
  steady-goes : (a b : ℕ) → goes q.newest times q.cap line a b ≡ true → steady (ahead q.newest times) a b ≡ true
  steady-goes a b h = by_cases (ahead q.newest times b a) (λ e. clash h (goes-no q.newest times line q.cap a b e)) (λ e. ap not e)

  rises-goes : q.timed ≡ true → Rises (goes q.newest times q.cap line) (slots_of q times line)
  unfolding queued
  rises-goes e =
      subst (Rises (goes q.newest times q.cap line)) (sym (slots-timed q times line e))
      (rises-sort (goes q.newest times q.cap line) (goes-trans q.newest times line q.cap) (at line) q.count
      (total q.newest times line q.cap (at line) q.count (g.heap e).apart))

  slots-steady : Rises (steady (before q times)) (slots_of q times line)
  slots-steady =
      ⊎_elim
      (λ e. subst (λ (lt : ℕ → ℕ → Bool). Rises (steady lt) (slots_of q times line)) (sym (before-timed q times e))
      (rises_as (goes q.newest times q.cap line) (steady (ahead q.newest times)) (slots_of q times line) steady-goes (rises-goes e)))
      (λ e. subst (λ (lt : ℕ → ℕ → Bool). Rises (steady lt) (slots_of q times line)) (sym (before-ring q times e))
      (rises-all (steady never) (slots_of q times line) (λ a b. refl)))
      (either q.timed)

  -- slots that stand as in the list of a queue are in its order
  pub listed-order : (f : ℕ → ℕ) (n : ℕ) → slots_of q times line ≡ listed f n → InOrder q times f n
  listed-order f n e = record {
    low = λ k h. slots-low g (f k) (subst (In (f k)) (sym e) (in_listed f n k h));
    apart = λ i j a b p. clash (eq-eqb (f i) (f j) p) (not-true (eqb (f i) (f j)) (rises-listed apart f n (subst (Rises apart) e (once-rises (slots_of q times line) (slots-once g))) i j a b));
    after = λ i j a b. not-true (before q times (f j) (f i)) (rises-listed (steady (before q times)) f n (subst (Rises (steady (before q times))) e slots-steady) i j a b);
  }

-- one that goes strictly before none is put in at the end
pub insert_last : (lt : ℕ → ℕ → Bool) (x : ℕ) (ys : List ℕ) → ((z : ℕ) → In z ys → lt x z ≡ false) → insert_by lt x ys ≡ ys ++ (x ∷ [])
unfolding insert_by In
insert_last lt x [] h = refl
insert_last lt x (y ∷ ys) h =
    let e = h y (inl refl) in
    rw e (ap (λ (l : List ℕ). y ∷ l) (insert_last lt x ys (λ z i. h z (inr i))))

-- ---- without a set

-- f 0, .., f (n - 1) without those in a set, put together from the front
unfoldable pub left : (ℕ → Bool) → (ℕ → ℕ) → ℕ → List ℕ
left p f zero = []
left p f (suc n) = cond (p (f n)) (left p f n) (left p f n ++ (f n ∷ []))

without_end : (p : ℕ → Bool) (x : ℕ) (l : List ℕ) → without p (l ++ (x ∷ [])) ≡ cond (p x) (without p l) (without p l ++ (x ∷ []))
unfolding without
without_end p x [] = refl
without_end p x (y ∷ ys) = go (p x) (p y) (without p ys) (without p (ys ++ (x ∷ []))) (without_end p x ys)
  where
    go : (s t : Bool) (w w' : List ℕ) → w' ≡ cond s w (w ++ (x ∷ [])) → cond t w' (y ∷ w') ≡ cond s (cond t w (y ∷ w)) (cond t w (y ∷ w) ++ (x ∷ []))
    go true true w w' r = r
    go true false w w' r = ap (λ (l : List ℕ). y ∷ l) r
    go false true w w' r = r
    go false false w w' r = ap (λ (l : List ℕ). y ∷ l) r

pub left-without : (p : ℕ → Bool) (f : ℕ → ℕ) (n : ℕ) → left p f n ≡ without p (listed f n)
unfolding left listed without
left-without p f zero = refl
left-without p f (suc n) = ap (λ (l : List ℕ). cond (p (f n)) l (l ++ (f n ∷ []))) (left-without p f n) ∙ sym (without_end p (f n) (listed f n))

pub left_out : (p : ℕ → Bool) (f : ℕ → ℕ) (n : ℕ) → p (f n) ≡ true → left p f (suc n) ≡ left p f n
unfolding left
left_out p f n e = rw e

pub left-more : (p : ℕ → Bool) (f : ℕ → ℕ) (n : ℕ) → p (f n) ≡ false → left p f (suc n) ≡ left p f n ++ (f n ∷ [])
unfolding left
left-more p f n e = rw e

pub in_left : (p : ℕ → Bool) (f : ℕ → ℕ) (n z : ℕ) → In z (left p f n) → Place f n z
unfolding left In
in_left p f zero z h = absurd h
in_left p f (suc n) z h = go (p (f n)) (in_left p f n z) h
  where
    deeper : Place f n z → Place f (suc n) z
    deeper w = record { k = w.k; low = omega (arith, w.low); is = w.is }

    go : (b : Bool) → (In z (left p f n) → Place f n z) → In z (cond b (left p f n) (left p f n ++ (f n ∷ []))) → Place f (suc n) z
    go true r i = deeper (r i)
    go false r i = ⊎_elim (λ j. deeper (r j)) (λ e. record { k = n; low = omega arith; is = sym e }) (end_in z (f n) (left p f n) i)

pub in_without : (p : ℕ → Bool) (z : ℕ) (l : List ℕ) → In z (without p l) → In z l
unfolding without In
in_without p z [] h = h
in_without p z (y ∷ ys) h = go (p y) (in_without p z ys) h
  where
    go : (b : Bool) → (In z (without p ys) → In z ys) → In z (cond b (without p ys) (y ∷ without p ys)) → (z ≡ y) ⊎ In z ys
    go true r h = inr (r h)
    go false r h = ⊎_elim (λ e. inl e) (λ i. inr (r i)) h

pub length_without : (p : ℕ → Bool) (l : List ℕ) → length (without p l) ≤ length l
unfolding without
length_without p [] = omega arith
length_without p (y ∷ ys) = go (p y) (length_without p ys)
  where
    go : (b : Bool) → length (without p ys) ≤ length ys → length (cond b (without p ys) (y ∷ without p ys)) ≤ suc (length ys)
    go true r = omega arith
    go false r = omega arith

-- the entries outside a set of ids are those of the slots without those ids
pub outside_map : (f : Id → Bool) (e : ℕ → Id × ℤ) (p : ℕ → Bool) (l : List ℕ) → ((s : ℕ) → In s l → f (e s).0 ≡ p s) → outside f (map e l) ≡ map e (without p l)
unfolding outside without In
outside_map f e p [] h = refl
outside_map f e p (y ∷ ys) h = go (f (e y).0) (p y) (h y (inl refl)) (outside_map f e p ys (λ s i. h s (inr i)))
  where
    go : (a b : Bool) → a ≡ b → outside f (map e ys) ≡ map e (without p ys) → cond a (outside f (map e ys)) (e y ∷ outside f (map e ys)) ≡ map e (cond b (without p ys) (y ∷ without p ys))
    go true b q r = rw (← q) r
    go false b q r = rw (← q) (ap (λ (m : List (Id × ℤ)). e y ∷ m) r)
