-- push, put_front and pop of a queue that is a ring: a place that is i places after head is told from the others, and head moves by one.
use Rattle.std.specs.Prelude.{Some}
use mathlib.Core.Path.{◌≡◌, refl, sym, ap, ◌∙◌, subst}
use mathlib.Core.Logic.{◌⊎◌, inl, inr, ⊎_elim}
use mathlib.Core.List.{List, ◌∷◌}
use mathlib.Core.Bool.{Bool, true, false, cond}
use Prim.Native.Nat.{ℕ, zero, suc, ◌+◌, ◌-◌, ◌/◌, ◌≤◌, ◌<◌}
use native.Mathlib.Omega.{arith}
use lib.ListN.{length, set, length-set}
use lib.IntN.{ℤ}
use lib.Dec.{ltb}
use borrow.Author.Tests.{ltb-true, ltb-false, lt-ltb, le-ltb}
use Rattle.revwalk.specs.declared.queue.Queue.{Queue}
use Rattle.revwalk.specs.Order.{at, never, insert_by, sort_at, In}
use Rattle.hashtable.specs.Table.{wrap}
use Rattle.hashtable.proofs.TableProbe as TableProbe
use Rattle.revwalk.specs.Queue.{Joins, Pushes, PutsBack, Pops, place_of, ring_at, slots_of}
use Rattle.revwalk.proofs.QueueSorts.{sort_agree}
use Rattle.revwalk.proofs.QueueMoves.{set_at, set_off}
use Rattle.revwalk.proofs.QueueRoom.{slots_end, slots-front, slots_tail}
use Rattle.revwalk.proofs.QueueGood.{before-ring, place-ring, slots-ring, of-ring, slots-in, pops-first}

-- ---- places
module _ (cap : ℕ) where
  pub wrap-low : (k : ℕ) → k < cap → wrap cap k ≡ k
  wrap-low k h = TableProbe.wrap-low cap k h

  pub wrap-high : (k : ℕ) → cap ≤ k → wrap cap k ≡ k - cap
  wrap-high k h = TableProbe.wrap-high cap k h

  wraps : (k : ℕ) → ((k < cap) × (wrap cap k ≡ k)) ⊎ ((cap ≤ k) × (wrap cap k ≡ k - cap))
  wraps k = go (ltb k cap) refl
    where
      go : (t : Bool) → ltb k cap ≡ t → ((k < cap) × (wrap cap k ≡ k)) ⊎ ((cap ≤ k) × (wrap cap k ≡ k - cap))
      go true e = let h = ltb-true k cap e in inl (h, wrap-low k h)
      go false e = let h = ltb-false k cap e in inr (h, wrap-high k h)

  pub wrap-in : (h i : ℕ) → h < cap → i ≤ cap → wrap cap (h + i) < cap
  wrap-in h i hh hi = ⊎_elim (λ a. omega (arith, a.0, a.1)) (λ a. omega (arith, a.0, a.1)) (wraps (h + i))

  -- two places are the same only where they are as far after head
  pub wrap-one : (h i j : ℕ) → h < cap → i < cap → j < cap → wrap cap (h + i) ≡ wrap cap (h + j) → i ≡ j
  wrap-one h i j hh hi hj e =
      ⊎_elim
      (λ a. ⊎_elim (λ b. omega (arith, a.0, a.1, b.0, b.1)) (λ b. omega (arith, a.0, a.1, b.0, b.1)) (wraps (h + j)))
      (λ a. ⊎_elim (λ b. omega (arith, a.0, a.1, b.0, b.1)) (λ b. omega (arith, a.0, a.1, b.0, b.1)) (wraps (h + j)))
      (wraps (h + i))

  -- p is the place after h: what is k places after p is k + 1 places after h
  pub wrap-next : (h p k : ℕ) → h < cap → k < cap → wrap cap (h + 1) ≡ p → wrap cap (p + k) ≡ wrap cap (h + suc k)
  wrap-next h p k hh hk e =
      ⊎_elim
      (λ a. let same : p + k ≡ h + suc k = omega (arith, a.0, a.1) in ap (wrap cap) same)
      (λ a.
      let low : p + k < cap = omega (arith, a.0, a.1) in
      let high : cap ≤ h + suc k = omega (arith, a.0, a.1) in
      let same : p + k ≡ h + suc k - cap = omega (arith, a.0, a.1) in
      wrap-low (p + k) low ∙ same ∙ sym (wrap-high (h + suc k) high))
      (wraps (h + 1))

  -- the place before h is the one cap - 1 places after it
  wrap-back : (h p : ℕ) → h < cap → p ≡ wrap cap (h + (cap - 1)) → wrap cap (p + 1) ≡ h
  wrap-back h p hh e =
      ⊎_elim
      (λ a.
      let high : cap ≤ p + 1 = omega (arith, a.0, a.1) in
      let same : p + 1 - cap ≡ h = omega (arith, a.0, a.1) in
      wrap-high (p + 1) high ∙ same)
      (λ a.
      let low : p + 1 < cap = omega (arith, a.0, a.1) in
      let same : p + 1 ≡ h = omega (arith, a.0, a.1) in
      wrap-low (p + 1) low ∙ same)
      (wraps (h + (cap - 1)))

  pub wrap-self : (h : ℕ) → h < cap → wrap cap (h + 0) ≡ h
  wrap-self h hh = let same : h + 0 ≡ h = omega arith in ap (wrap cap) same ∙ wrap-low h hh

-- ---- a list without an order: its end and its front
list-end : (f g : ℕ → ℕ) (n slot : ℕ) → ((k : ℕ) → k < n → g k ≡ f k) → g n ≡ slot → sort_at never g (n + 1) ≡ insert_by never slot (sort_at never f n)
unfolding sort_at
list-end f g n slot old new =
    let more : n + 1 ≡ suc n = omega arith in
    ap (sort_at never g) more ∙ ap (λ (x : ℕ). insert_by never x (sort_at never g n)) new ∙ ap (insert_by never slot) (sort_agree never never g f n old (λ i j a b. refl))

sort_front : (g : ℕ → ℕ) (n : ℕ) → sort_at never g (suc n) ≡ g 0 ∷ sort_at never (λ k. g (suc k)) n
unfolding sort_at insert_by
sort_front g zero = refl
sort_front g (suc n) = ap (insert_by never (g (suc n))) (sort_front g n)

list-front : (f g : ℕ → ℕ) (n : ℕ) → ((k : ℕ) → k < n → g (suc k) ≡ f k) → sort_at never g (n + 1) ≡ g 0 ∷ sort_at never f n
list-front f g n old =
    let more : n + 1 ≡ suc n = omega arith in
    ap (sort_at never g) more ∙ sort_front g n ∙ ap (λ (l : List ℕ). g 0 ∷ l) (sort_agree never never (λ k. g (suc k)) f n old (λ i j a b. refl))

-- ---- the functions
module _ (q : Queue) (times : List ℤ) (line : List ℕ) (e : q.timed ≡ false) where
  ring-fresh : (slot : ℕ) → (In slot (slots_of q times line) → ⊥) → (k : ℕ) → k < q.count → ring_at line q.cap q.head k ≡ slot → ⊥
  ring-fresh slot f k h d = f (slots-in q times line slot k h (ap (λ (p : ℕ → ℕ). p k) (place-ring q line e) ∙ d))

  module _ (slot p : ℕ) (hc : q.cap ≤ length line / 2) (hn : q.count < q.cap) (hh : q.head < q.cap) (hp : p < q.cap) where
    set-in : at (set line p slot) p ≡ slot
    set-in = set_at line p slot (omega arith)

    kept : (k : ℕ) → q.cap + q.cap ≤ k → at (set line p slot) k ≡ at line k
    kept k h = set_off line p k slot (λ d. omega arith)

    pub pushes : p ≡ wrap q.cap (q.head + q.count) → Pushes q times slot line (set line p slot) (record { timed = q.timed; newest = q.newest; cap = q.cap; head = q.head; count = q.count + 1; next = q.next })
    pushes is =
        record {
          long = simp length-set;
          kept = kept;
          same = record { timed = refl; newest = refl; cap = refl };
          next = omega arith;
          still = λ d. absurd (omega arith);
          joined = λ g s fr n.
              record {
                count = refl;
                good = of-ring r times (set line p slot) e
                    (record {
                      room = rw length-set (g.ring e).room;
                      size = omega arith;
                      start = λ h. hh;
                      slots = slots_end f f' (g.ring e).slots s (ring-fresh slot fr) old new;
                    });
                list = slots-ring r times (set line p slot) e ∙ list-end f f' q.count slot old new ∙ rw (slots-ring q times line e, before-ring q times e);
              };
        }
      where
        r : Queue
        r = record { timed = q.timed; newest = q.newest; cap = q.cap; head = q.head; count = q.count + 1; next = q.next }

        f : ℕ → ℕ
        f = ring_at line q.cap q.head

        f' : ℕ → ℕ
        f' = ring_at (set line p slot) q.cap q.head

        old : (k : ℕ) → k < q.count → f' k ≡ f k
        old k h = set_off line p (wrap q.cap (q.head + k)) slot (λ d. let w = wrap-one q.cap q.head k q.count hh (omega arith) hn (d ∙ is) in omega arith)

        new : f' q.count ≡ slot
        new = ap (at (set line p slot)) (sym is) ∙ set-in

    pub fronts : p ≡ wrap q.cap (q.head + (q.cap - 1)) → Joins q times slot (slot ∷ slots_of q times line) line (set line p slot) (record { timed = q.timed; newest = q.newest; cap = q.cap; head = p; count = q.count + 1; next = q.next })
    fronts is =
        record {
          long = simp length-set;
          kept = kept;
          same = record { timed = refl; newest = refl; cap = refl };
          next = omega arith;
          still = λ d. absurd (omega arith);
          joined = λ g s fr n.
              record {
                count = refl;
                good = of-ring r times (set line p slot) e
                    (record {
                      room = rw length-set (g.ring e).room;
                      size = omega arith;
                      start = λ h. hp;
                      slots = slots-front f f' (g.ring e).slots s (ring-fresh slot fr) old new;
                    });
                list = slots-ring r times (set line p slot) e ∙ list-front f f' q.count old ∙ ap (λ (x : ℕ). x ∷ sort_at never f q.count) new ∙ rw (slots-ring q times line e);
              };
        }
      where
        r : Queue
        r = record { timed = q.timed; newest = q.newest; cap = q.cap; head = p; count = q.count + 1; next = q.next }

        f : ℕ → ℕ
        f = ring_at line q.cap q.head

        f' : ℕ → ℕ
        f' = ring_at (set line p slot) q.cap p

        old : (k : ℕ) → k < q.count → f' (suc k) ≡ f k
        old k h =
            set_off line p (wrap q.cap (p + suc k)) slot (λ d. let w = wrap-one q.cap p (suc k) 0 hp (omega arith) (omega arith) (d ∙ sym (wrap-self q.cap p hp)) in omega arith)
            ∙ ap (at line) (sym (wrap-next q.cap p q.head k hp (omega arith) (wrap-back q.cap q.head p hh is)))

        new : f' 0 ≡ slot
        new = ap (at (set line p slot)) (wrap-self q.cap p hp) ∙ set-in

  pub pops : (p : ℕ) → (q.count ≡ 0 → ⊥) → q.head < q.cap → p ≡ wrap q.cap (q.head + 1) → p < q.cap → Pops q times line line (Some (record { slot = at line q.head; queue = record { timed = q.timed; newest = q.newest; cap = q.cap; head = p; count = q.count - 1; next = q.next } }))
  pops p some hh is hp =
      pops-first refl (λ k h. refl) (record { timed = refl; newest = refl; cap = refl }) refl
      (sym (ap (λ (f : ℕ → ℕ). f 0) (place-ring q line e) ∙ ap (at line) (wrap-self q.cap q.head hh)))
      (λ g.
      let size = (g.ring e).size in
      let old : (k : ℕ) → k < q.count - 1 → f' k ≡ f (suc k) = λ k h. ap (at line) (wrap-next q.cap q.head p k hh (omega arith) (sym is)) in
      record {
        count = more;
        good = of-ring r times line e
            (record {
              room = (g.ring e).room;
              size = omega arith;
              start = λ h. hp;
              slots = slots_tail f f' (q.count - 1) (g.ring e).slots (omega arith) old;
            });
        list = slots-ring q times line e
            ∙ ap (sort_at never f) (sym more)
            ∙ list-front f' f (q.count - 1) (λ k h. sym (old k h))
            ∙ ap (λ (x : ℕ). x ∷ sort_at never f' (q.count - 1)) (ap (at line) (wrap-self q.cap q.head hh))
            ∙ ap (λ (l : List ℕ). at line q.head ∷ l) (sym (slots-ring r times line e));
      })
    where
      r : Queue
      r = record { timed = q.timed; newest = q.newest; cap = q.cap; head = p; count = q.count - 1; next = q.next }

      f : ℕ → ℕ
      f = ring_at line q.cap q.head

      f' : ℕ → ℕ
      f' = ring_at line q.cap p

      more : q.count - 1 + 1 ≡ q.count
      more = omega arith

-- ---- the first place of a ring
module _ (q : Queue) (line : List ℕ) (e : q.timed ≡ false) where
  pub first-low : q.head < q.cap → at line q.head ≡ place_of q line 0
  first-low h = sym (ap (λ (f : ℕ → ℕ). f 0) (place-ring q line e) ∙ ap (at line) (wrap-self q.cap q.head h))

  pub first-high : q.cap ≤ q.head → at line (q.head - q.cap) ≡ place_of q line 0
  first-high n = sym (ap (λ (f : ℕ → ℕ). f 0) (place-ring q line e) ∙ ap (at line) (wrap-high q.cap (q.head + 0) (omega arith) ∙ (let same : q.head + 0 ≡ q.head = omega arith in ap (λ (k : ℕ). k - q.cap) same)))

-- ---- put_back, by time and otherwise
pub pick_yes : {b : Bool} (x y : List ℕ) → b ≡ true → x ≡ cond b x y
pick_yes x y e = rw e

pub pick_no : {b : Bool} (x y : List ℕ) → b ≡ false → y ≡ cond b x y
pick_no x y e = rw e

pub back-timed : {q : Queue} {times : List ℤ} {slot : ℕ} {line out : List ℕ} {r : Queue} → q.timed ≡ true → Pushes q times slot line out r → PutsBack q times slot line out r
back-timed {q} {times} {slot} {line} {out} {r} e j = subst (λ (l : List ℕ). Joins q times slot l line out r) (pick_yes _ _ e) j

pub back-ring : {q : Queue} {times : List ℤ} {slot : ℕ} {line out : List ℕ} {r : Queue} → q.timed ≡ false → Joins q times slot (slot ∷ slots_of q times line) line out r → PutsBack q times slot line out r
back-ring {q} {times} {slot} {line} {out} {r} e j = subst (λ (l : List ℕ). Joins q times slot l line out r) (pick_no _ _ e) j
