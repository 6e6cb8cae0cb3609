-- The queue drained: what was taken out stands in order in the memory past the queue, and together with what is left it is the queue's list.
-- Each turn finds a slot, since fewer were taken out than waited. Assumes nothing.
use mathlib.Core.Path.{◌≡◌, refl, sym, ap, ◌∙◌, subst}
use mathlib.Core.List.{List, [], ◌∷◌, ◌++◌, append_assoc, append-nil}
use Prim.Native.Nat.{ℕ, suc, ◌+◌, ◌<◌, ◌≤◌}
use native.Mathlib.Omega.{arith}
use native.Mathlib.Numerals.{add-one}
use lib.ListN.{length, set, length-set, length-append}
use lib.Seq.{get_or-set_same, get_or-set_other}
use lib.IntN.{ℤ}
use Rattle.std.specs.Prelude.{Some, None}
use Rattle.revwalk.specs.declared.queue.Queue.{Queue}
use Rattle.revwalk.specs.declared.queue.Popped.{Popped}
use Rattle.revwalk.specs.Order.{at, listed}
use Rattle.revwalk.specs.Queue.{slots_of, GoodQueue, Took, Pops}
use Rattle.revwalk.proofs.QueueGood.{slots_length, good-room}
use Rattle.revwalk.proofs.QueueSlots.{line-good, line-list}
use Rattle.refill.specs.Inner.{from, Drains}
use Rattle.refill.proofs.Lists.{length_listed, listed_agree}

-- what was taken out and what is left
pub record Parts (q₀ : Queue) (times : List ℤ) (base : ℕ) (line₀ : List ℕ) (q : Queue) (line : List ℕ) (i : ℕ) : Type 0 where
  pub good : GoodQueue q times line
  pub list : slots_of q₀ times line₀ ≡ listed (from line base) i ++ slots_of q times line

pub record Draining (q₀ : Queue) (times : List ℤ) (base n : ℕ) (line₀ : List ℕ) (q : Queue) (line : List ℕ) (i : ℕ) : Type 0 where
  pub many : n ≡ q₀.count
  pub upto : i ≤ n
  pub fits : base + n ≤ length line₀
  pub long : length line ≡ length line₀
  pub cap : q.cap ≡ q₀.cap
  pub parts : GoodQueue q₀ times line₀ → base ≡ q₀.cap + q₀.cap → Parts q₀ times base line₀ q line i

pub drain_none : {q : Queue} {times : List ℤ} {base n : ℕ} {line : List ℕ} → n ≡ q.count → base + n ≤ length line → Draining q times base n line q line 0
unfolding listed
drain_none e f = record { many = e; upto = omega arith; fits = f; long = refl; cap = refl; parts = λ g b. record { good = g; list = refl } }

-- what is left has the rest of the number
left-count : {q₀ : Queue} {times : List ℤ} {base : ℕ} {line₀ : List ℕ} {q : Queue} {line : List ℕ} {i : ℕ} → Parts q₀ times base line₀ q line i → i + length (slots_of q times line) ≡ q₀.count
left-count {q₀} {times} {base} {line₀} {q} {line} {i} p =
    let a = slots_length q₀ times line₀ in
    let b = ap length p.list in
    let c = length-append (listed (from line base) i) (slots_of q times line) in
    let d = length_listed (from line base) i in
    omega arith

module _ {q₀ : Queue} {times : List ℤ} {base : ℕ} {line₀ : List ℕ} {q : Queue} {line out line' : List ℕ} {i : ℕ} {p : Popped} (w : Parts q₀ times base line₀ q line i) (o : Pops q times line out (Some p))
    (cap : q.cap ≡ q₀.cap) (place : base ≡ q₀.cap + q₀.cap) (low : i < q₀.count) (room : base + i < length line) (e : line' ≡ set out (base + i) p.slot) where
  first : Took q times line out p
  first = o.told.took w.good

  long : length out ≡ length line
  long = o.long

  rest-cap : p.queue.cap ≡ q₀.cap
  rest-cap = o.told.same.cap ∙ cap

  below : (k : ℕ) → k < p.queue.cap + p.queue.cap → at out k ≡ at line' k
  below k h =
      let c = rest-cap in
      let d : k ≡ base + i → ⊥ = λ j. omega arith in
      sym (ap (λ (l : List ℕ). at l k) e ∙ get_or-set_other out (base + i) k p.slot 0 d)

  here : at line' (base + i) ≡ p.slot
  here = ap (λ (l : List ℕ). at l (base + i)) e ∙ get_or-set_same out (base + i) p.slot 0 (omega (arith, long))

  there : (k : ℕ) → k < i → from line base k ≡ from line' base k
  there k h =
      let d : base + k ≡ base + i → ⊥ = λ j. omega arith in
      sym (ap (λ (l : List ℕ). at l (base + k)) e ∙ get_or-set_other out (base + i) (base + k) p.slot 0 d ∙ o.kept (base + k) (let c = cap in omega arith))

  length' : length line' ≡ length line
  length' = ap length e ∙ length-set out (base + i) p.slot ∙ long

  pub drained-one : Parts q₀ times base line₀ p.queue line' (suc i)
  unfolding listed
  drained-one = record {
    good = line-good first.good line' below (omega (arith, length', long, good-room first.good));
    list =
        let a = listed_agree (from line base) (from line' base) i there in
        let b = line-list first.good line' below in
        let c = append_assoc (listed (from line' base) i) (from line' base i ∷ []) (slots_of p.queue times line') in
        w.list
        ∙ ap (λ (l : List ℕ). listed (from line base) i ++ l) first.list
        ∙ ap (λ (l : List ℕ). l ++ (p.slot ∷ slots_of p.queue times out)) a
        ∙ ap (λ (l : List ℕ). listed (from line' base) i ++ (p.slot ∷ l)) b
        ∙ ap (λ (s : ℕ). listed (from line' base) i ++ (s ∷ slots_of p.queue times line')) (sym here)
        ∙ sym c;
  }

pub drain_more : {q₀ : Queue} {times : List ℤ} {base n : ℕ} {line₀ : List ℕ} {q : Queue} {line out line' : List ℕ} {i : ℕ} {p : Popped} → Draining q₀ times base n line₀ q line i → i < n
    → Pops q times line out (Some p) → line' ≡ set out (base + i) p.slot → Draining q₀ times base n line₀ p.queue line' (i + 1)
drain_more {q₀} {times} {base} {n} {line₀} {q} {line} {out} {line'} {i} {p} d h o e = record {
  many = d.many;
  upto = omega arith;
  fits = d.fits;
  long = ap length e ∙ length-set out (base + i) p.slot ∙ o.long ∙ d.long;
  cap = o.told.same.cap ∙ d.cap;
  parts = λ g b.
      subst (Parts q₀ times base line₀ p.queue line') (sym (add-one i))
      (drained-one (d.parts g b) o d.cap b (omega (arith, d.many)) (omega (arith, d.fits, d.long)) e);
}

-- none is handed out only where fewer waited than are taken out
pub drain_stop : {q₀ : Queue} {times : List ℤ} {base n : ℕ} {line₀ : List ℕ} {q : Queue} {line out : List ℕ} {i : ℕ} → Draining q₀ times base n line₀ q line i → i < n → Pops q times line out None
    → Drains q₀ times base line₀ out
drain_stop d h o = record {
  long = o.long ∙ d.long;
  drained = λ g b. let w = d.parts g b in absurd (omega (arith, left-count w, ap length (o.told.1 w.good), d.many));
}

empty-list : (l : List ℕ) → length l ≡ 0 → l ≡ []
empty-list [] e = refl
empty-list (x ∷ l) e = absurd (omega arith)

pub drain_all : {q₀ : Queue} {times : List ℤ} {base n : ℕ} {line₀ : List ℕ} {q : Queue} {line : List ℕ} {i : ℕ} → Draining q₀ times base n line₀ q line i → n ≤ i → Drains q₀ times base line₀ line
drain_all {q₀} {times} {base} {n} {line₀} {q} {line} {i} d h = record {
  long = d.long;
  drained = λ g b.
      let w = d.parts g b in
      let none : slots_of q times line ≡ [] = empty-list (slots_of q times line) (omega (arith, left-count w, d.many)) in
      let all : i ≡ q₀.count = omega (arith, d.many, d.upto) in
      w.list ∙ ap (λ (l : List ℕ). listed (from line base) i ++ l) none ∙ append-nil (listed (from line base) i) ∙ ap (listed (from line base)) all;
}
