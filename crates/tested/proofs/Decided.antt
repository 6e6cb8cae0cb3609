-- The end of the pass: all that is reached is readable and the file agrees on it, and each pair falls exactly where each lies below its cell. Assumes nothing.
use Rattle.std.specs.Prelude.{Err, Ok, Option, Result}
use Rattle.commitgraph.specs.declared.Layout.{Layout}
use Rattle.walk.specs.declared.Refusal.{Refusal}
use mathlib.Core.Path.{◌≡◌, refl, sym, ◌∙◌, ap, subst}
use Prim.Native.Nat.{ℕ, ◌≤◌, ◌<◌}
use mathlib.Core.Bool.{Bool, true, false}
use mathlib.Core.List.{List, []}
use native.Mathlib.Omega.{arith}
use lib.ListN.{length, get_or}
use Rattle.hash.specs.Bytes.{Id}
use Rattle.hash.proofs.Tests.{clash, not_yes}
use Rattle.walk.specs.declared.Refusal.TheVariants.{UnreadableReach, GraphAtOdds, PairNotFalling}
use Rattle.walk.specs.Lookup.{World, world_of, Pair, lt_pair}
use Rattle.walk.specs.Reach.{links}
use Rattle.walk.specs.Demand.{pair_at}
use Rattle.opening.specs.Checks.{checked_of}
use Rattle.reading.proofs.IdLists.{mem-at}
use Rattle.reach.specs.declared.seek.SeekError.{SeekError}
use Rattle.reach.specs.declared.seek.SeekError.TheVariants.{Unreadable as Stopped, NoRoom as Short}
use Rattle.reach.specs.Search.{Reached, AllReadable}
use Rattle.reach.specs.Memory.{Lent, In}
use Rattle.reach.specs.Seek.{refusal_of, ToldSought, Seeks}
use Rattle.reach.specs.Tested.{each, agrees_in, falls_in, judged}
use Rattle.reach.proofs.Growth.{place_of, grow-done, grow-readable}
use Rattle.reach.proofs.Verdicts.{each-mem, each_all, each-places, each_broken}
use Rattle.falling.specs.Cells.{AllLow}
use Rattle.tested.specs.declared.step.StepError.{StepError}
use Rattle.tested.specs.declared.step.StepError.TheVariants.{Unreadable, AtOdds, NoRoom}
use Rattle.tested.specs.Passes.{Held, slot_at, pair_in, Going, ToldGone, Goes}
use Rattle.tested.specs.Whole.{Answered, stuck, decided, Odds, TestsFrom}

-- ---- by cells

module _ {width : ℕ} {w : World} {u roots : List Id} {cap from : ℕ} {m : Held} {n : ℕ} {l : List Id} {k : ℕ} (v : Going width w u roots cap from m n l k) (h : n ≤ k) where
  read_all : length l ≤ k
  read_all = omega (arith, v.seeking.lists.count)

  reached : Reached w roots l
  reached = grow-done v.seeking.growing read_all v.seeking.roots_in

  all-readable : AllReadable w roots
  all-readable = grow-readable v.seeking.readable read_all reached

  all-agree : each (agrees_in w) l ≡ true
  all-agree = each-places (agrees_in w) l (λ i j. v.agrees i (omega (arith, read_all)))

  held_at : (i : ℕ) → i < n → In width cap m.lent (get_or l i []) (slot_at from m i)
  held_at i j = v.seeking.lists.slots i j

  its-pair : (i : ℕ) → i < n → pair_in m (slot_at from m i) ≡ pair_at w (get_or l i [])
  its-pair i j = v.paired i (omega arith)

  -- where each lies below its cell
  all-fall : AllLow m.lent.line m.levels m.times from n true → each (falls_in w) l ≡ true
  unfolding falls_in
  all-fall o = each-places (falls_in w) l (λ i j. each_all (λ p. lt_pair (pair_at w p) (pair_at w (get_or l i []))) (links w (get_or l i [])) (λ p e.
      let pl = place_of p l (v.seeking.growing.closed i (omega (arith, read_all)) p e) in
      let b : pl.0 < n = omega (arith, pl.1, v.seeking.lists.count) in
      let q : pair_in m (slot_at from m pl.0) ≡ pair_at w p = its-pair pl.0 b ∙ ap (pair_at w) pl.2 in
      subst (λ (x : Pair). lt_pair x (pair_at w (get_or l i [])) ≡ true) q
      (v.sound (slot_at from m pl.0) (pair_in m (slot_at from m pl.0)) (held_at pl.0 b).low (o.yes refl pl.0 b) i (omega (arith, read_all)) p e
      (subst (λ (x : Id). In width cap m.lent x (slot_at from m pl.0)) pl.2 (held_at pl.0 b)))))

  -- where one does not
  not-all : AllLow m.lent.line m.levels m.times from n false → each (falls_in w) l ≡ false
  unfolding falls_in
  not-all o = not_yes (λ y.
      let z = o.no refl in
      let j = z.0 in
      clash (v.tight (slot_at from m z.0) (pair_in m (slot_at from m z.0)) (held_at z.0 z.1).low (λ i b p e d.
      let same : p ≡ get_or l z.0 [] = sym d.is ∙ (held_at z.0 z.1).is in
      let falls = each-mem (λ x. lt_pair (pair_at w x) (pair_at w (get_or l i []))) (links w (get_or l i [])) (each-mem (falls_in w) l y (get_or l i []) (mem-at l i (below i b))) p e in
      subst (λ (x : Pair). lt_pair x (pair_at w (get_or l i [])) ≡ true) (ap (pair_at w) same ∙ sym (its-pair z.0 z.1)) falls)) z.2)
    where
      below : (i : ℕ) → i < k → i < length l
      below i b = omega (arith, v.seeking.growing.read)

  pub whole-fine : AllLow m.lent.line m.levels m.times from n true → Answered w roots (Ok tt)
  unfolding judged
  whole-fine o = decided l reached all-readable (ap (λ (z : Bool). checked_of (judged true true z)) (sym (all-fall o)) ∙ ap (λ (z : Bool). checked_of (judged true z (each (falls_in w) l))) (sym all-agree))

  pub whole-not-falling : AllLow m.lent.line m.levels m.times from n false → Answered w roots (Err PairNotFalling)
  unfolding judged
  whole-not-falling o = decided l reached all-readable (ap (λ (z : Bool). checked_of (judged true true z)) (sym (not-all o)) ∙ ap (λ (z : Bool). checked_of (judged true z (each (falls_in w) l))) (sym all-agree))

-- ---- what `at_odds` answers

module _ {width : ℕ} {cap from : ℕ} {s : List ℕ} {m m' : Lent} {n : ℕ} {r : Result ℕ SeekError} (o : Seeks width false cap from s m m' n r) where
  pub odds-whole : (n' : ℕ) → r ≡ Ok n' → Odds width cap from s m n (Err GraphAtOdds)
  unfolding judged
  odds-whole n' e = record {
    right = λ ok g u roots f.
        let t = subst (ToldSought width (world_of width s g) u roots false cap from m m') e (o.right ok g u roots f.list f.seeking) in
        let pl = place_of f.commit t.list (t.reached.complete f.commit f.reached) in
        let odd : each (agrees_in (world_of width s g)) t.list ≡ false = each_broken (agrees_in (world_of width s g)) t.list pl.0 pl.1 (ap (agrees_in (world_of width s g)) pl.2 ∙ f.odd) in
        decided t.list t.reached t.readable (ap (λ (z : Bool). checked_of (judged true z (each (falls_in (world_of width s g)) t.list))) (sym odd));
  }

  pub odds-short : (x : SeekError) → r ≡ Err x → Odds width cap from s m n (Err (refusal_of x))
  odds-short Stopped e = record { right = λ ok g u roots f. stuck (subst (ToldSought width (world_of width s g) u roots false cap from m m') e (o.right ok g u roots f.list f.seeking)) refl }
  odds-short Short e = record { right = λ ok g u roots f. absurd (subst (ToldSought width (world_of width s g) u roots false cap from m m') e (o.right ok g u roots f.list f.seeking)) }

-- ---- what `test_from` answers

module _ {width : ℕ} {ca : Option Layout} {g s : List ℕ} {cap from : ℕ} {m m' : Held} {n : ℕ} {r : Result ℕ StepError} (o : Goes width ca g s cap from m m' n r) where
  pub from-fine : (n' : ℕ) {b : Bool} → r ≡ Ok n' → AllLow m'.lent.line m'.levels m'.times from n' b → b ≡ true → TestsFrom width ca g s cap from m n (Ok tt)
  from-fine n' e a q = record {
    right = λ f u roots z.
        let t = subst (ToldGone width (world_of width s g) u roots cap from m') e (o.right f u roots z) in
        whole-fine t.2.going t.1 (subst (AllLow m'.lent.line m'.levels m'.times from n') q a);
  }

  pub from-not-falling : (n' : ℕ) {b : Bool} → r ≡ Ok n' → AllLow m'.lent.line m'.levels m'.times from n' b → b ≡ false → TestsFrom width ca g s cap from m n (Err PairNotFalling)
  from-not-falling n' e a q = record {
    right = λ f u roots z.
        let t = subst (ToldGone width (world_of width s g) u roots cap from m') e (o.right f u roots z) in
        whole-not-falling t.2.going t.1 (subst (AllLow m'.lent.line m'.levels m'.times from n') q a);
  }

  pub from-stuck : r ≡ Err Unreadable → TestsFrom width ca g s cap from m n (Err UnreadableReach)
  from-stuck e = record { right = λ f u roots z. stuck (subst (ToldGone width (world_of width s g) u roots cap from m') e (o.right f u roots z)) refl }

  pub from-odd : (n' : ℕ) {c : Result (Unit {0}) Refusal} → r ≡ Err (AtOdds n') → Odds width cap from s m'.lent n' c → TestsFrom width ca g s cap from m n c
  from-odd n' e d = record { right = λ f u roots z. d.right f.store g u roots (subst (ToldGone width (world_of width s g) u roots cap from m') e (o.right f u roots z)) }

  pub from-roomy : {c : Result (Unit {0}) Refusal} → r ≡ Err NoRoom → TestsFrom width ca g s cap from m n c
  from-roomy e = record { right = λ f u roots z. absurd (subst (ToldGone width (world_of width s g) u roots cap from m') e (o.right f u roots z)) }
