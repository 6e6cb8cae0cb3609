-- From a store in the lent memory to a turn of the search: one law for each way that a turn ends. Assumes nothing.
use mathlib.Core.Path.{◌≡◌, refl, sym, ◌∙◌, ap, subst}
use mathlib.Core.Logic.{⊎_elim, ◌⊎◌, inl, inr}
use mathlib.Core.List.{List, [], ◌∷◌}
use Prim.Native.Nat.{ℕ, suc, ◌+◌, ◌*◌, ◌-◌, ◌%◌, ◌≤◌, ◌<◌}
use native.Mathlib.Omega.{arith}
use native.Mathlib.Numerals.{add-one}
use lib.ListN.{length, get_or, set}
use lib.Seq.{set_out, get_or-set_same, get_or-set_other}
use lib.Dec.{ltb}
use Rattle.hash.proofs.Tests.{by_cases}
use Rattle.levels.specs.declared.Turn.TheVariants.{On, All, Unfit}
use Rattle.levels.specs.Levels.{Graph, larger, most, level_from, Fit}
use Rattle.levels.specs.Search.{most_nodes, tag, back_of, hand_of, left, Linked, Chain, Search, at, Turns, Puts}
use Rattle.levels.proofs.Rules.{three}
use Rattle.levels.proofs.Moves.{Upd, pushed, pushed-less, opens, skipped, finished, crowded, absent, cycle, stepped, stepped-less, ended, ended-less, level-fits, top_low}

-- ---- stores

pub puts_in : (s : List ℕ) (k v : ℕ) → k < length s → Puts s (set s k v) k v
puts_in s k v h = record { fits = λ l. refl; other = λ j d. get_or-set_other s k j v 0 d }

pub puts-out : (s : List ℕ) (k v : ℕ) → length s ≤ k → Puts s s k v
puts-out s k v h = record { fits = λ l. sym (set_out s k v h); other = λ j d. refl }

pub puts_big : (s : List ℕ) (k v : ℕ) → 4294967296 ≤ v → Puts s s k v
puts_big s k v h = record { fits = λ l. absurd (omega arith); other = λ j d. refl }

upd_of : (s s' : List ℕ) (k v : ℕ) → Puts s s' k v → v < 4294967296 → k < length s → Upd (at s) (at s') k v
upd_of s s' k v p l h =
    let e : s' ≡ set s k v = p.fits l in
    record { here = ap (λ (x : List ℕ). get_or x k 0) e ∙ get_or-set_same s k v 0 h; other = p.other }

-- ---- the greatest

pub most-next : (f : ℕ → ℕ) (i m l : ℕ) → m ≡ most f i → l ≡ f i → larger m l ≡ most f (i + 1)
unfolding most
most-next f i m l e d = ap (λ (x : ℕ). larger x l) e ∙ ap (λ (x : ℕ). larger (most f i) x) d ∙ ap (most f) (sym (add-one i))

pub most-none : (f : ℕ → ℕ) → most f 0 ≡ 0
unfolding most
most-none f = refl

pub larger_lt : (a b n : ℕ) → a < n → b < n → larger a b < n
larger_lt a b n p q = by_cases (ltb a b) (λ e. rw e q) (λ e. rw e p)

-- ---- answers

turns-on : (g : Graph) (s s' : List ℕ) (top root a b : ℕ) → ((k : ℕ) → g.nodes ≤ k → at s' k ≡ at s k)
    → (Search g (at s) top root → Search g (at s') a b × (left g (at s') b < left g (at s) root)) → Turns g s s' top root (On a b)
turns-on g s s' top root a b kept f =
    record {
      kept = kept;
      on = λ t r e q.
          let d : a ≡ t = cc in
          let d' : b ≡ r = cc in
          subst (λ (x : ℕ). Search g (at s') t x × (left g (at s') x < left g (at s) root)) d'
          (subst (λ (x : ℕ). Search g (at s') x b × (left g (at s') b < left g (at s) root)) d (f q));
      ends = λ e q. let z : ◌≡◌ {A = ℕ} 0 1 = cc in absurd (omega arith);
      bad = λ e q. let z : ◌≡◌ {A = ℕ} 0 1 = cc in absurd (omega arith);
    }

turns-bad : (g : Graph) (s : List ℕ) (top root : ℕ) → (Search g (at s) top root → Fit g → ⊥) → Turns g s s top root Unfit
turns-bad g s top root f =
    record {
      kept = λ k h. refl;
      on = λ t r e q. let z : ◌≡◌ {A = ℕ} 0 1 = cc in absurd (omega arith);
      ends = λ e q. let z : ◌≡◌ {A = ℕ} 0 1 = cc in absurd (omega arith);
      bad = λ e. f;
    }

linked_none : (g : Graph) (f : ℕ → ℕ) (top : ℕ) (path : List ℕ) (p : ℕ) → Chain g f top path → g.nodes ≤ top → Linked g p path
unfolding Chain Linked
linked_none g f top [] p c h = tt
linked_none g f top (a ∷ r) p c h = absurd (omega (arith, c.0, c.1.low))

linked_top : (g : Graph) (f : ℕ → ℕ) (top : ℕ) (path : List ℕ) (p j : ℕ) → Chain g f top path → top < g.nodes → j < g.count top → p ≡ g.parent top j → Linked g p path
unfolding Chain Linked
linked_top g f top [] p j c h l e = tt
linked_top g f top (a ∷ r) p j c h l e =
    (j, subst (λ (x : ℕ). j < g.count x) c.0 l, subst (λ (x : ℕ). g.parent x j ≡ p) c.0 (sym e))

module _ (g : Graph) (s : List ℕ) (top root : ℕ) where
  pub turns-all : g.nodes ≤ top → g.nodes ≤ root → Turns g s s top root All
  turns-all a b =
      record {
        kept = λ k h. refl;
        on = λ t r e q. let z : ◌≡◌ {A = ℕ} 0 1 = cc in absurd (omega arith);
        ends = λ e q. finished g (at s) (at s) top root q a b;
        bad = λ e q. let z : ◌≡◌ {A = ℕ} 0 1 = cc in absurd (omega arith);
      }

  pub turns-skip : root < g.nodes → (w : ℕ) → w ≡ at s root → 1 ≤ w → Turns g s s top root (On top (root + 1))
  turns-skip l w e h = turns-on g s s top root top (root + 1) (λ k m. refl) (λ q. skipped g (at s) (at s) top root q l (omega arith))

  turns-root : (s' : List ℕ) → g.nodes ≤ length s → g.nodes ≤ most_nodes → g.nodes ≤ top → root < g.nodes → (w : ℕ) → w ≡ at s root → w < 1
      → Puts s s' root ((g.nodes + 1) * 512) → Turns g s s' top root (On root (root + 1))
  turns-root s' room fits h l w e z p =
      turns-on g s s' top root root (root + 1) (λ k m. p.other k (λ d. omega arith))
      (λ q.
      let t : g.nodes ≡ top = omega (arith, top_low g (at s) top q.path q.chain) in
      let u : Upd (at s) (at s') root ((top + 1) * 512) = subst (λ (x : ℕ). Upd (at s) (at s') root ((x + 1) * 512)) t (upd_of s s' root ((g.nodes + 1) * 512) p (omega arith) (omega arith)) in
      let i = linked_none g (at s) top q.path root q.chain h in
      let m : (k : ℕ) → k < root + 1 → (k < root) ⊎ (k ≡ root) = λ k y. ⊎_elim (λ a. inl a) (λ a. inr (omega arith)) (three k root) in (
        pushed g (at s) (at s') top root q root (root + 1) l (omega arith) u i (omega arith) (omega arith) m,
        pushed-less g (at s) (at s') top root q root (root + 1) l (omega arith) u i (omega arith) (omega arith) m,
      ))

  -- the same, where the number of nodes is known by another name
  pub turns-root-of : (n : ℕ) → g.nodes ≡ n → (s' : List ℕ) → n ≤ length s → n ≤ most_nodes → n ≤ top → root < n → (w : ℕ) → w ≡ at s root → w < 1 → Puts s s' root ((n + 1) * 512)
      → Turns g s s' top root (On root (root + 1))
  turns-root-of n e s' a b c d w f z p = turns-root s' (omega arith) (omega arith) (omega arith) (omega arith) w f z (subst (λ (m : ℕ). Puts s s' root ((m + 1) * 512)) (sym e) p)

  module _ (low : top < g.nodes) (v : ℕ) (ev : v ≡ at s top) (room : g.nodes ≤ length s) (fits : g.nodes ≤ most_nodes) where
    -- the parents before the one at hand are there
    hand-low : Search g (at s) top root → v % 512 ≤ g.count top
    hand-low q = omega (arith, ap hand_of ev, (opens g (at s) top q.path q.chain low).here.hand)

    pub turns-crowded : (v % 512 ≤ g.count top → v % 512 < g.count top) → 256 ≤ v % 512 → Turns g s s top root Unfit
    turns-crowded l h = turns-bad g s top root (λ q. crowded g (at s) (at s) top root q low (omega (arith, l (hand-low q))))

    module _ (p : ℕ) (hand : v % 512 ≤ g.count top → v % 512 < g.count top) (ep : v % 512 < g.count top → p ≡ g.parent top (v % 512)) where
      pub turns-absent : g.nodes ≤ p → Turns g s s top root Unfit
      turns-absent h = turns-bad g s top root (λ q. absent g (at s) (at s) top root q low (v % 512) (hand (hand-low q)) (omega (arith, ep (hand (hand-low q)))))

      module _ (inside : p < g.nodes) (w : ℕ) (ew : w ≡ at s p) where
        pub turns_down : (s' : List ℕ) → w < 1 → Puts s s' p ((top + 1) * 512) → Turns g s s' top root (On p root)
        turns_down s' z b =
            turns-on g s s' top root p root (λ k m. b.other k (λ d. omega arith))
            (λ q.
            let u : Upd (at s) (at s') p ((top + 1) * 512) = upd_of s s' p ((top + 1) * 512) b (omega arith) (omega arith) in
            let i = linked_top g (at s) top q.path p (v % 512) q.chain low (hand (hand-low q)) (ep (hand (hand-low q))) in
            let m : (k : ℕ) → k < root → (k < root) ⊎ (k ≡ p) = λ k y. inl y in (
              pushed g (at s) (at s') top root q p root inside (omega arith) u i q.early (omega arith) m,
              pushed-less g (at s) (at s') top root q p root inside (omega arith) u i q.early (omega arith) m,
            ))

        pub turns-cycle : 1 ≤ w → w < tag → Turns g s s top root Unfit
        turns-cycle a b =
            turns-bad g s top root
            (λ q.
            let d = ep (hand (hand-low q)) in
            let e : w ≡ at s (g.parent top (v % 512)) = ew ∙ ap (at s) d in
            cycle g (at s) (at s) top root q low (v % 512) (hand (hand-low q)) (omega arith) (omega arith) (omega arith))

        pub turns-step : (s' : List ℕ) → v % 512 < 256 → tag ≤ w → Puts s s' top (v + 1) → Turns g s s' top root (On top root)
        turns-step s' few a b =
            turns-on g s s' top root top root (λ k m. b.other k (λ d. omega arith))
            (λ q.
            let o = (opens g (at s) top q.path q.chain low).here.open' in
            let u₀ : Upd (at s) (at s') top (v + 1) = upd_of s s' top (v + 1) b (omega arith) (omega arith) in
            let u : Upd (at s) (at s') top (at s top + 1) = subst (λ (x : ℕ). Upd (at s) (at s') top (x + 1)) ev u₀ in
            let h : hand_of (at s top) < g.count top = omega (arith, ap hand_of ev, hand (hand-low q)) in
            let e : p ≡ g.parent top (hand_of (at s top)) = ep (hand (hand-low q)) ∙ ap (λ (x : ℕ). g.parent top (hand_of x)) ev in
            let i : g.parent top (hand_of (at s top)) < g.nodes = omega arith in
            let r : tag ≤ at s (g.parent top (hand_of (at s top))) = subst (λ (x : ℕ). tag ≤ at s x) e (omega arith) in (
              stepped g (at s) (at s') top root q low h (omega (arith, ap hand_of ev)) i r u,
              stepped-less g (at s) (at s') top root q low h (omega (arith, ap hand_of ev)) i r u,
            ))

    pub turns-end : (s' : List ℕ) (m b : ℕ) → (v % 512 ≤ g.count top → g.count top ≤ v % 512) → (v % 512 ≤ 256 → v % 512 ≤ g.count top → m ≡ most (λ j. at s (g.parent top j) - tag) (v % 512)) → b ≡ back_of v → Puts s s' top (tag + (m + 1)) → Turns g s s' top root (On b root)
    unfolding level_from
    turns-end s' m b here em eb p =
        turns-on g s s' top root b root (λ k l. p.other k (λ d. omega arith))
        (λ q.
        let h : g.count top ≤ hand_of (at s top) = omega (arith, ap hand_of ev, here (hand-low q)) in
        let hh = (opens g (at s) top q.path q.chain low).here.hand in
        let few = (opens g (at s) top q.path q.chain low).here.few in
        let el = level-is (em (omega (arith, ap hand_of ev)) (hand-low q)) (omega (arith, ap hand_of ev)) in
        let u₁ : Upd (at s) (at s') top (tag + (m + 1)) → Upd (at s) (at s') top (tag + level_from g (λ p. at s p - tag) top) =
        λ x. subst (λ (y : ℕ). Upd (at s) (at s') top (tag + y)) el x in
        let l : m + 1 ≤ most_nodes + 1 = omega (arith, el, level-fits' q h) in
        let u = u₁ (upd_of s s' top (tag + (m + 1)) p (omega arith) (omega arith)) in
        let e : back_of (at s top) ≡ b = ap back_of (sym ev) ∙ sym eb in
        (subst (λ (x : ℕ). Search g (at s') x root) e (ended g (at s) (at s') top root q low h u), ended-less g (at s) (at s') top root q low h u))
      where
        level-is : m ≡ most (λ j. at s (g.parent top j) - tag) (v % 512) → v % 512 ≡ g.count top → m + 1 ≡ level_from g (λ p. at s p - tag) top
        level-is e d = add-one m ∙ ap suc (e ∙ ap (most (λ j. at s (g.parent top j) - tag)) d)

        level-fits' : Search g (at s) top root → g.count top ≤ hand_of (at s top) → level_from g (λ p. at s p - tag) top ≤ most_nodes + 1
        level-fits' q h = level-fits g (at s) (at s) top root q low h
