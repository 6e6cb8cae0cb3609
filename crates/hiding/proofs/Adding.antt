-- The three sentences: a run is left exactly where it is admitted and none of the hidden ids reaches it, and the ids of a joined list are those of
-- its parts; the numbers follow since no run is in a list twice. Assumes nothing.
use Rattle.std.specs.Prelude.{None}
use mathlib.Core.Path.{◌≡◌, refl, sym, ◌∙◌, ap, subst}
use mathlib.Core.Logic.{◌⊎◌, inl, inr, ⊎_elim, ◌↔◌}
use Prim.Native.Nat.{ℕ, ◌+◌, ◌*◌, ◌≤◌}
use mathlib.Core.List.Memᴰ
use mathlib.Core.List.{List, [], ◌∷◌, ◌++◌}
use native.Mathlib.Omega.{arith}
use lib.ListN.{length, length-append}
use Rattle.hash.specs.Bytes.{Id}
use Rattle.walk.specs.Lookup.{World, world_of}
use Rattle.walk.specs.State.{Walk}
use Rattle.walk.specs.Opening.{Input, walk_of, list_ids, list_limit, P, refusal, width_in}
use Rattle.walk.specs.Reach.{Mem, NoDup, Reaches}
use Rattle.walk.specs.Demand.{Premises, Listed}
use Rattle.walk.proofs.Named.{fits}
use Rattle.reach.specs.Search.{ReachedBy, Reached}
use Rattle.reach.specs.Tested.{Verdict, verdict_number}
use Rattle.reach.proofs.Closure.{reached?}
use Rattle.reach.proofs.Verdicts.{passed-premises}
use Rattle.hiding.specs.Hiding.{hiding, Whole, Tested, PartsTested, SameTested, Leaves, AddsUp}
use Rattle.hiding.proofs.Joined.{some_bytes, list-joined, list-one, accepted-short, accepted-other}
use Rattle.hiding.proofs.Sets.{mem-one, walk, listed_less, premises_less, listed-both, listed-one}

-- a tested opening's verdict gives the premises
pub tested_by : (i : Input) → refusal i ≡ None → (v : Verdict (walk_of i) (list_ids (width_in i) i.tips)) → verdict_number v ≡ 0 → Tested i
tested_by i e v n = record { fits = e; premises = passed-premises v n }

-- ---- the walk of an input, by its parts

abbrev walk_with : Input → List Id → ℕ → Walk
walk_with i h f = walk (world_of (width_in i) i.store i.graph) i.settings (list_ids (width_in i) i.excluded) h f

abbrev ListedBy : Input → List Id → ℕ → Id → Type 0
ListedBy i h f x = Listed (walk_with i h f) (list_ids (width_in i) i.tips) x

abbrev fuel_of : Input → List ℕ → ℕ
fuel_of i h = 4 * P (hiding i h)

to-parts : (i : Input) (h : List ℕ) (x : Id) → Listed (walk_of (hiding i h)) (list_ids (width_in i) i.tips) x → ListedBy i (list_ids (width_in i) h) (fuel_of i h) x
unfolding walk_of
to-parts i h x a = a

of_parts : (i : Input) (h : List ℕ) (x : Id) → ListedBy i (list_ids (width_in i) h) (fuel_of i h) x → Listed (walk_of (hiding i h)) (list_ids (width_in i) i.tips) x
unfolding walk_of
of_parts i h x a = a

premises-parts : (i : Input) (h : List ℕ) → Premises (walk_of (hiding i h)) (list_ids (width_in i) i.tips) → Premises (walk_with i (list_ids (width_in i) h) (fuel_of i h)) (list_ids (width_in i) i.tips)
unfolding walk_of
premises-parts i h p = p

parts-premises : (i : Input) (h : List ℕ) → Premises (walk_with i (list_ids (width_in i) h) (fuel_of i h)) (list_ids (width_in i) i.tips) → Premises (walk_of (hiding i h)) (list_ids (width_in i) i.tips)
unfolding walk_of
parts-premises i h p = p

module _ (i : Input) where
  abbrev w : World
  w = world_of (width_in i) i.store i.graph

  given : {h : List ℕ} {l : List Id} → Leaves (hiding i h) l → (x : Id) → Mem x l → ListedBy i (list_ids (width_in i) h) (fuel_of i h) x
  given {h} d x m = to-parts i h x ((d.exactly x).0 m)

  gives : {h : List ℕ} {l : List Id} → Leaves (hiding i h) l → (x : Id) → ListedBy i (list_ids (width_in i) h) (fuel_of i h) x → Mem x l
  gives {h} d x a = (d.exactly x).1 (of_parts i h x a)

  -- fewer hidden ids leave more
  less : {h k : List ℕ} {l m : List Id} → ((y : Id) → Mem y (list_ids (width_in i) h) → Mem y (list_ids (width_in i) k)) → Leaves (hiding i h) l → Leaves (hiding i k) m → (x : Id) → Mem x m → Mem x l
  less {h} {k} s d e x m =
      gives d x (listed_less w i.settings (list_ids (width_in i) i.excluded) (list_ids (width_in i) i.tips) (list_ids (width_in i) h) (list_ids (width_in i) k) (fuel_of i h) (fuel_of i k) s x (given e x m))

  -- a part of the hidden ids is tested where all are
  tested-less : (h k : List ℕ) → Whole (width_in i) k → length k ≤ list_limit (width_in i) → ((y : Id) → Mem y (list_ids (width_in i) k) → Mem y (list_ids (width_in i) h)) → Tested (hiding i h) → Tested (hiding i k)
  tested-less h k a l s t = record {
    fits = accepted-other i h k a l t.fits;
    premises = parts-premises i k
        (premises_less w i.settings (list_ids (width_in i) i.excluded) (list_ids (width_in i) i.tips) (list_ids (width_in i) k) (list_ids (width_in i) h) (fuel_of i k) (fuel_of i h) s (premises-parts i h t.premises));
  }

  module _ (h k : List ℕ) (a : Whole (width_in i) h) (b : Whole (width_in i) k) where
    joined-first : (y : Id) → Mem y (list_ids (width_in i) h) → Mem y (list_ids (width_in i) (h ++ k))
    joined-first y m = subst (λ (l : List Id). Mem y l) (sym (list-joined (width_in i) (some_bytes i) h k a b)) (Memᴰ.append_left (list_ids (width_in i) k) m)

    joined-second : (y : Id) → Mem y (list_ids (width_in i) k) → Mem y (list_ids (width_in i) (h ++ k))
    joined-second y m = subst (λ (l : List Id). Mem y l) (sym (list-joined (width_in i) (some_bytes i) h k a b)) (Memᴰ.append_right (list_ids (width_in i) h) m)

    tested-first : Tested (hiding i (h ++ k)) → Tested (hiding i h)
    tested-first t = tested-less (h ++ k) h a (omega (arith, length-append h k, accepted-short i (h ++ k) t.fits)) joined-first t

    tested-second : Tested (hiding i (h ++ k)) → Tested (hiding i k)
    tested-second t = tested-less (h ++ k) k b (omega (arith, length-append h k, accepted-short i (h ++ k) t.fits)) joined-second t

  pub parts-tested : PartsTested i
  unfolding PartsTested
  parts-tested h k a b t = (tested-first h k a b t, tested-second h k a b t)

  pub same-tested : SameTested i
  unfolding SameTested
  same-tested h k a l s t = tested-less h k a l (λ y m. (s y).1 m) t

  -- ---- of lists that have what is left

  both_left : (h k : List ℕ) → Whole (width_in i) h → Whole (width_in i) k → {l m n : List Id} → Leaves (hiding i (h ++ k)) l → Leaves (hiding i h) m → Leaves (hiding i k) n
      → (x : Id) → Mem x l ↔ (Mem x m × Mem x n)
  both_left h k a b d e f x = (
    (λ p. (less (joined-first h k a b) e d x p, less (joined-second h k a b) f d x p)),
    (λ p. gives d x (subst (λ (z : List Id). ListedBy i z (fuel_of i (h ++ k)) x) (sym (list-joined (width_in i) (some_bytes i) h k a b))
        ((listed-both w i.settings (list_ids (width_in i) i.excluded) (list_ids (width_in i) i.tips) (list_ids (width_in i) h) (list_ids (width_in i) k) (fuel_of i h) (fuel_of i k) (fuel_of i (h ++ k)) x).1
        (given e x p.0, given f x p.1)))),
  )

  same_left : (h k : List ℕ) → ((x : Id) → Mem x (list_ids (width_in i) h) ↔ Mem x (list_ids (width_in i) k)) → {l m : List Id} → Leaves (hiding i h) l → Leaves (hiding i k) m → (x : Id) → Mem x l ↔ Mem x m
  same_left h k s d e x = (less (λ y n. (s y).1 n) e d x, less (λ y n. (s y).0 n) d e x)

  as_many : {l m : List Id} → NoDup l → NoDup m → ((x : Id) → Mem x l ↔ Mem x m) → length l ≡ length m
  as_many {l} {m} p q s = omega (arith, fits l m p (λ x n. (s x).0 n), fits m l q (λ x n. (s x).1 n))

  -- a run is left still, or the new hidden tip reaches it
  still-or-reached : (h t : List ℕ) → Whole (width_in i) h → length t ≡ width_in i → {l m : List Id} → Leaves (hiding i h) l → Leaves (hiding i (h ++ t)) m
      → (x : Id) → Mem x l → Mem x m ⊎ Reaches w x t
  still-or-reached h t a z d e x p =
      let b : Whole (width_in i) t = record { count = 1; is = omega (arith, z) } in
      let q : list_ids (width_in i) (h ++ t) ≡ list_ids (width_in i) h ++ (t ∷ []) = list-joined (width_in i) (some_bytes i) h t a b ∙ ap (λ (y : List Id). list_ids (width_in i) h ++ y) (list-one (width_in i) (some_bytes i) t z) in
      ⊎_elim
      (λ r. inr (subst (Reaches w x) (mem-one r.lent) r.reaches))
      (λ n. inl (gives e x (subst (λ (y : List Id). ListedBy i y (fuel_of i (h ++ t)) x) (sym q)
      (listed-one w i.settings (list_ids (width_in i) i.excluded) (list_ids (width_in i) i.tips) (list_ids (width_in i) h) t (fuel_of i h) (fuel_of i (h ++ t)) x (given d x p)
      (λ r. n (record { root = t; lent = Memᴰ.head refl; reaches = r }))))))
      (reached? (width_in i) i.store i.graph (t ∷ []) x)

  few-left : (h t : List ℕ) → Whole (width_in i) h → length t ≡ width_in i → {l m : List Id} → Leaves (hiding i h) l → Leaves (hiding i (h ++ t)) m
      → (r : List Id) → Reached w (t ∷ []) r → length l ≤ length m + length r
  few-left h t a z {l} {m} d e r s = omega (
    arith,
    fits l (m ++ r) d.once (λ x n. ⊎_elim
        (λ o. Memᴰ.append_left r o)
        (λ o. Memᴰ.append_right m (s.complete x (record { root = t; lent = Memᴰ.head refl; reaches = o })))
        (still-or-reached h t a z d e x n)),
    length-append m r,
  )

-- ---- of any way to run an opening that gives what it leaves

pub adds_up : (W : Input → Type 0) (runs : (i : Input) → W i → List Id) → ((i : Input) → Tested i → (d : W i) → Leaves i (runs i d)) → (i : Input) → AddsUp W runs i
adds_up W runs g i = record {
  both = λ h k a b t d e f. both_left i h k a b (g (hiding i (h ++ k)) t d) (g (hiding i h) (tested-first i h k a b t) e) (g (hiding i k) (tested-second i h k a b t) f);
  none_altered = λ h k a l s t d e.
      let p = g (hiding i h) t d in
      let q = g (hiding i k) (tested-less i h k a l (λ y m. (s y).1 m) t) e in
      (same_left i h k s p q, as_many i p.once q.once (same_left i h k s p q));
  only-reached = λ h t a z u d e.
      let b : Whole (width_in i) t = record { count = 1; is = omega (arith, z) } in
      let p = g (hiding i h) (tested-first i h t a b u) d in
      let q = g (hiding i (h ++ t)) u e in
      (less i (joined-first i h t a b) p q, still-or-reached i h t a z p q);
  few-lost = λ h t a z u d e.
      let b : Whole (width_in i) t = record { count = 1; is = omega (arith, z) } in
      few-left i h t a z (g (hiding i h) (tested-first i h t a b u) d) (g (hiding i (h ++ t)) u e);
}
