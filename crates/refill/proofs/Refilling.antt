-- The queue filled again: a slot in the frontier is passed over, each other one goes to the end, since the slots come in the queue's order.
-- Assumes nothing.
use mathlib.Core.Path.{◌≡◌, refl, sym, ap, ◌∙◌, subst}
use mathlib.Core.List.{List, [], ◌∷◌, ◌++◌}
use mathlib.Core.Bool.{Bool, true, false, ◌&&◌}
use Prim.Native.Nat.{ℕ, suc, ◌+◌, ◌*◌, ◌<◌, ◌≤◌}
use native.Mathlib.Omega.{arith}
use native.Mathlib.Numerals.{add-one}
use lib.ListN.{length}
use lib.IntN.{ℤ}
use Rattle.hash.proofs.Tests.{by_cases, clash}
use Rattle.hashtable.specs.Marks.{visible, hidden, frontier}
use Rattle.revwalk.specs.declared.queue.Queue.{Queue}
use Rattle.revwalk.specs.Order.{at, listed, In}
use Rattle.revwalk.specs.Queue.{before, slots_of, Alike, Pushes}
use Rattle.revwalk.proofs.QueueGood.{before_alike, good-size}
use Rattle.revwalk.proofs.QueueSlots.{emptied, emptied-list}
use Rattle.refill.specs.Inner.{from, in_frontier, without, empty_queue, Enters, Ready, Holding, Drains, Refills, Sifts}
use Rattle.refill.proofs.Lists.{insert_last, left, left_out, left-more, left-without, in_left, listed-order}

alike_same : (q : Queue) → Alike q q
alike_same q = record { timed = refl; newest = refl; cap = refl }

alike_then : {a b c : Queue} → Alike a b → Alike b c → Alike a c
alike_then x y = record { timed = y.timed ∙ x.timed; newest = y.newest ∙ x.newest; cap = y.cap ∙ x.cap }

-- ---- one slot

-- the two marks, told one after the other
pub frontier-yes : {m k : ℕ} {a b : Bool} → m ≡ k → a ≡ visible m → a ≡ true → b ≡ hidden m → b ≡ frontier k
unfolding frontier
frontier-yes {k = k} e p q r = sym (ap (λ (x : Bool). x && hidden k) (ap visible (sym e) ∙ sym p ∙ q) ∙ ap hidden (sym e) ∙ sym r)

pub frontier-no : {m k : ℕ} {a : Bool} → m ≡ k → a ≡ visible m → a ≡ false → false ≡ frontier k
unfolding frontier
frontier-no {k = k} e p q = sym (ap (λ (x : Bool). x && hidden k) (ap visible (sym e) ∙ sym p ∙ q))

pub told-front : (marks : List ℕ) {s w : ℕ} {r b : Bool} → r ≡ in_frontier marks w → w ≡ s → r ≡ b → in_frontier marks s ≡ b
told-front marks e p q = sym (ap (in_frontier marks) p) ∙ sym e ∙ q

pub enters_out : {q : Queue} {marks : List ℕ} {times : List ℤ} {slot : ℕ} {line : List ℕ} → in_frontier marks slot ≡ true → Enters q marks times slot line line q
enters_out {q} e = record {
  long = refl;
  kept = λ k h. refl;
  same = alike_same q;
  out = λ h. (refl, refl);
  stays = λ h. clash e h;
}

pub enters_in : {q : Queue} {marks : List ℕ} {times : List ℤ} {slot : ℕ} {line line' : List ℕ} {r : Queue} → in_frontier marks slot ≡ false → Pushes q times slot line line' r → Enters q marks times slot line line' r
enters_in e p = record {
  long = p.long;
  kept = p.kept;
  same = p.same;
  out = λ h. clash h e;
  stays = λ h. p;
}

-- ---- the loop

-- the queue holds what is left of the first i slots
pub record Filled (q : Queue) (times : List ℤ) (line l : List ℕ) (i : ℕ) : Type 0 where
  pub holds : Holding q times line l
  pub few : q.count ≤ i

pub record Refilling (q₀ : Queue) (marks : List ℕ) (times : List ℤ) (base n : ℕ) (line₀ : List ℕ) (q : Queue) (line : List ℕ) (i : ℕ) : Type 0 where
  pub upto : i ≤ n
  pub long : length line ≡ length line₀
  pub same : Alike q₀ q
  pub kept : (k : ℕ) → q₀.cap + q₀.cap ≤ k → at line k ≡ at line₀ k
  pub filled : Ready q₀ times base n line₀ → Filled q times line (left (in_frontier marks) (from line₀ base) i) i

pub refill_none : (q : Queue) (marks : List ℕ) (times : List ℤ) (base n : ℕ) (line : List ℕ) → Refilling q marks times base n line q line 0
unfolding left
refill_none q marks times base n line = record {
  upto = omega arith;
  long = refl;
  same = alike_same q;
  kept = λ k h. refl;
  filled = λ r. record {
    holds = record { good = emptied q times line r.no-count r.no-head r.room; list = emptied-list q times line r.no-count; next = omega (arith, r.no-next) };
    few = omega (arith, r.no-count);
  };
}

module _ {q₀ : Queue} {marks : List ℕ} {times : List ℤ} {base n : ℕ} {line₀ : List ℕ} {q : Queue} {line : List ℕ} {i slot : ℕ} {line' : List ℕ} {q' : Queue}
    (d : Refilling q₀ marks times base n line₀ q line i) (h : i < n) (is : slot ≡ at line (base + i)) (e : Enters q marks times slot line line' q') where
  abbrev src : ℕ → ℕ
  src = from line₀ base

  abbrev front : ℕ → Bool
  front = in_frontier marks

  module _ (r : Ready q₀ times base n line₀) where
    slot_is : slot ≡ src i
    slot_is = is ∙ d.kept (base + i) (omega (arith, r.place))

    f : Filled q times line (left front src i) i
    f = d.filled r

    passed : front slot ≡ true → Filled q' times line' (left front src (suc i)) (i + 1)
    passed t =
        let o = e.out t in
        let l : left front src (suc i) ≡ left front src i = left_out front src i (ap front (sym slot_is) ∙ t) in
        subst (λ (m : List ℕ). Filled q' times line' m (i + 1)) (sym l)
        (subst (λ (x : Queue). Filled x times line' (left front src i) (i + 1)) (sym o.0)
        (subst (λ (m : List ℕ). Filled q times m (left front src i) (i + 1)) (sym o.1)
        (record { holds = f.holds; few = omega (arith, f.few) })))

    no-earlier : (z : ℕ) → In z (slots_of q times line) → before q times slot z ≡ false
    no-earlier z m =
        let p = in_left front src i z (subst (In z) f.holds.list m) in
        ap (λ (b : ℕ → ℕ → Bool). b slot z) (before_alike times d.same)
        ∙ ap (λ (s : ℕ). before q₀ times s z) slot_is
        ∙ ap (before q₀ times (src i)) (sym p.is)
        ∙ r.order.after p.k i p.low h

    absent : In slot (slots_of q times line) → ⊥
    absent m =
        let p = in_left front src i slot (subst (In slot) f.holds.list m) in
        r.order.apart p.k i p.low h (p.is ∙ slot_is)

    taken : front slot ≡ false → Filled q' times line' (left front src (suc i)) (i + 1)
    taken t =
        let p = e.stays t in
        let low : slot < q.cap = subst (λ (c : ℕ). slot < c) (sym d.same.cap) (subst (λ (s : ℕ). s < q₀.cap) (sym slot_is) (r.order.low i h)) in
        let j = p.joined f.holds.good low absent (omega (arith, f.few, f.holds.next, r.small)) in
        let l : left front src (suc i) ≡ left front src i ++ (src i ∷ []) = left-more front src i (ap front (sym slot_is) ∙ t) in
        record {
          holds = record {
            good = j.good;
            list = j.list ∙ insert_last (before q times) slot (slots_of q times line) no-earlier ∙ ap (λ (m : List ℕ). m ++ (slot ∷ [])) f.holds.list ∙ ap (λ (s : ℕ). left front src i ++ (s ∷ [])) slot_is ∙ sym l;
            next = omega (arith, p.next, j.count, f.holds.next);
          };
          few = omega (arith, j.count, f.few);
        }

    filled_more : Filled q' times line' (left front src (suc i)) (i + 1)
    filled_more = by_cases (front slot) passed taken

  pub refill-more : Refilling q₀ marks times base n line₀ q' line' (i + 1)
  refill-more = record {
    upto = omega arith;
    long = e.long ∙ d.long;
    same = alike_then d.same e.same;
    kept = λ k l. e.kept k (subst (λ (c : ℕ). c + c ≤ k) (sym d.same.cap) l) ∙ d.kept k l;
    filled = λ r. subst (λ (k : ℕ). Filled q' times line' (left front src k) (i + 1)) (sym (add-one i)) (filled_more r);
  }

pub refill_all : {q₀ : Queue} {marks : List ℕ} {times : List ℤ} {base n : ℕ} {line₀ : List ℕ} {q : Queue} {line : List ℕ} {i : ℕ} → Refilling q₀ marks times base n line₀ q line i → n ≤ i
    → Refills q₀ marks times base n line₀ line q
refill_all {q₀} {marks} {times} {base} {n} {line₀} {q} {line} {i} d h = record {
  long = d.long;
  same = d.same;
  filled = λ r.
      let all : i ≡ n = omega (arith, d.upto) in
      let l : left (in_frontier marks) (from line₀ base) i ≡ without (in_frontier marks) (listed (from line₀ base) n) = ap (left (in_frontier marks) (from line₀ base)) all ∙ left-without (in_frontier marks) (from line₀ base) n in
      subst (Holding q times line) l (d.filled r).holds;
}

-- ---- the whole

sifts_empty : {q : Queue} {marks : List ℕ} {times : List ℤ} {base : ℕ} {line mid line' : List ℕ} {r : Queue} → base ≡ q.cap + q.cap → Drains q times base line mid
    → Refills (empty_queue q) marks times base q.count mid line' r → Sifts q marks times line line' r
sifts_empty {q} {marks} {times} {base} {line} {mid} {line'} {r} e d f = record {
  long = f.long ∙ d.long;
  same = record { timed = f.same.timed; newest = f.same.newest; cap = f.same.cap };
  sifted = λ room small g.
      let l = d.drained g e in
      let order = listed-order g (from mid base) q.count l in
      let ready : Ready (empty_queue q) times base q.count mid = record {
        place = e;
        room = omega (arith, d.long);
        small = omega (arith, good-size g);
        no-head = refl;
        no-count = refl;
        no-next = refl;
        order = record { low = order.low; apart = order.apart; after = λ i j a b. ap (λ (t : ℕ → ℕ → Bool). t (from mid base j) (from mid base i)) (before_alike times (record { timed = refl; newest = refl; cap = refl })) ∙ order.after i j a b };
      } in
      subst (λ (m : List ℕ). Holding r times line' (without (in_frontier marks) m)) (sym l) (f.filled ready);
}

pub sifts : {q none : Queue} {marks : List ℕ} {times : List ℤ} {base : ℕ} {line mid line' : List ℕ} {r : Queue} → base ≡ q.cap + q.cap → none ≡ empty_queue q → Drains q times base line mid
    → Refills none marks times base q.count mid line' r → Sifts q marks times line line' r
sifts {q} {none} {marks} {times} {base} {line} {mid} {line'} {r} e o d f = sifts_empty e d (subst (λ (x : Queue). Refills x marks times base q.count mid line' r) o f)

pub sifts_not : {q : Queue} {marks : List ℕ} {times : List ℤ} {line : List ℕ} → (5 * q.cap ≤ length line → q.count ≤ q.cap → ⊥) → Sifts q marks times line line q
sifts_not {q} n = record { long = refl; same = alike_same q; sifted = λ room small g. absurd (n room (good-size g)) }
