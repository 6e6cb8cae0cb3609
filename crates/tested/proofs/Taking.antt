-- One commit of the line is taken: its pair stands in its slot, what it leads to is in the line, and the cells of its parents stand for it too. Cells
-- name commits that were read, so no pair that is set down later moves what they say. Assumes nothing.
use mathlib.Core.Path.{◌≡◌, sym, ◌∙◌, ap, subst}
use mathlib.Core.Logic.{inl, inr, ⊎_elim}
use Prim.Native.Nat.{ℕ, suc, ◌+◌, ◌*◌, ◌≤◌, ◌<◌}
use mathlib.Core.Bool.{true, false}
use mathlib.Core.List.{List, []}
use native.Mathlib.Omega.{arith}
use lib.ListN.{length, get_or, set, length-set}
use lib.IntN.{ℤ, pos}
use lib.Seq.{get_or-set_same, get_or-set_other}
use Rattle.hash.specs.Bytes.{Id}
use Rattle.object.specs.Header.{Header}
use Rattle.hashtable.specs.Table.{id_of}
use Rattle.hashtable.proofs.TableIds.{same?}
use Rattle.walk.specs.Lookup.{World, Pair, lt_pair}
use Rattle.walk.specs.Reach.{Mem, links}
use Rattle.walk.specs.Demand.{Readable, pair_at}
use Rattle.reading.proofs.IdLists.{mem-at}
use Rattle.reach.specs.Search.{ReachedBy, Growing}
use Rattle.reach.specs.Memory.{Lent, lent, In, Lists, Went}
use Rattle.reach.specs.Seek.{Seeking}
use Rattle.reach.proofs.Growth.{last-place, place_of, grow-more, grow-read, reached-on, readable-more, readable-read}
use Rattle.reach.specs.Tested.{agrees_in}
use Rattle.falling.specs.Cells.{slot_pair, low_in, low_at, slots_in, Right, Lowered}
use Rattle.falling.proofs.Lowest.{low-empty, low-some}
use Rattle.tested.specs.Passes.{Held, held, slot_at, pair_in, low_of, UnderAll, Going, InHand}

module _ {width : ℕ} {w : World} {u roots : List Id} {cap from : ℕ} {m : Held} {n : ℕ} {l : List Id} {k : ℕ} (v : Going width w u roots cap from m n l k) (h : k < n)
    {slot : ℕ} {q : Pair} {hd : Header} {c : ℕ} (a : InHand w from m l k slot q hd c)
    {levels' : List ℕ} {times' : List ℤ} (sl : levels' ≡ set m.levels slot q.generation) (st : times' ≡ set m.times slot q.time) where
  -- ---- the pair that is set down

  low-slot : slot < cap
  low-slot = omega (arith, a.slot_is, (v.seeking.lists.slots k h).low)

  here : slot_pair levels' times' slot ≡ q
  here = λ j. record {
    generation = (ap (λ (z : List ℕ). get_or z slot 0) sl ∙ get_or-set_same m.levels slot q.generation 0 (omega (arith, low-slot, v.roomy.levels))) j;
    time = (ap (λ (z : List ℤ). get_or z slot (pos 0)) st ∙ get_or-set_same m.times slot q.time (pos 0) (omega (arith, low-slot, v.roomy.times))) j;
  }

  there : (i : ℕ) → (i ≡ slot → ⊥) → slot_pair levels' times' i ≡ pair_in m i
  there i d = λ j. record {
    generation = (ap (λ (z : List ℕ). get_or z i 0) sl ∙ get_or-set_other m.levels slot i q.generation 0 d) j;
    time = (ap (λ (z : List ℤ). get_or z i (pos 0)) st ∙ get_or-set_other m.times slot i q.time (pos 0) d) j;
  }

  this : slot_pair levels' times' slot ≡ pair_at w (get_or l k [])
  this = here ∙ a.pair

  -- the pairs of those read before still stand: a slot that is written twice holds the same commit
  still : (i : ℕ) → i < k → slot_pair levels' times' (slot_at from m i) ≡ pair_at w (get_or l i [])
  still i j = ⊎_elim
      (λ p.
      let same : get_or l i [] ≡ get_or l k [] = sym (v.seeking.lists.slots i (omega arith)).is ∙ ap (id_of width m.lent.names) (p ∙ a.slot_is) ∙ (v.seeking.lists.slots k h).is in
      ap (slot_pair levels' times') p ∙ this ∙ ap (pair_at w) (sym same))
      (λ p. there (slot_at from m i) p ∙ v.paired i j)
      (same? (slot_at from m i) slot)

  same_low : (s : ℕ) → s < cap → (x : Pair) → low_at m.lent.line levels' times' s x ≡ low_of m s x
  same_low s j x = ⊎_elim
      (λ e. sym (low-empty levels' times' (get_or m.lent.line (2 * s) 0) x e) ∙ low-empty m.levels m.times (get_or m.lent.line (2 * s) 0) x e)
      (λ e. sym (low-some levels' times' (get_or m.lent.line (2 * s) 0) (slot_at from m e.0) x e.2)
      ∙ ap (lt_pair x) (still e.0 e.1 ∙ sym (v.paired e.0 e.1))
      ∙ low-some m.levels m.times (get_or m.lent.line (2 * s) 0) (slot_at from m e.0) x e.2)
      (v.cells s j)

  -- ---- the parents are noted

  module _ {names₁ marks₁ line₁ : List ℕ} {n' : ℕ} (o : Went width false cap from u m.lent (lent names₁ marks₁ line₁) l hd.ids n') where
    abbrev m₁ : Lent
    m₁ = lent names₁ marks₁ line₁

    pub at : (i : ℕ) → i < n → get_or o.list i [] ≡ get_or l i []
    at i j = o.grows.place i (omega (arith, v.seeking.lists.count))

    more : n ≤ n'
    more = omega (arith, o.grows.long, v.seeking.lists.count, o.lists.count)

    -- an id stands in one slot
    one-slot : (x : Id) (s t : ℕ) → In width cap m₁ x s → In width cap m₁ x t → s ≡ t
    one-slot x s t d e = o.lists.table.once s t d.low e.low d.alive e.alive (d.is ∙ sym e.is)

    same-slot : (i : ℕ) → i < n → get_or line₁ (from + i) 0 ≡ slot_at from m i
    same-slot i j = one-slot (get_or l i []) (get_or line₁ (from + i) 0) (slot_at from m i)
        (subst (λ (z : Id). In width cap m₁ z (get_or line₁ (from + i) 0)) (at i j) (o.lists.slots i (omega (arith, more))))
        (o.spares.stays (get_or l i []) (slot_at from m i) (v.seeking.lists.slots i j))

    pub cell₁ : (s : ℕ) → s < cap → get_or line₁ (2 * s) 0 ≡ get_or m.lent.line (2 * s) 0
    cell₁ s j = o.spares.below (2 * s) (omega (arith, v.roomy.below))

    low₁ : (s : ℕ) → s < cap → (x : Pair) → low_at line₁ levels' times' s x ≡ low_of m s x
    low₁ s j x = ap (λ (z : ℕ). low_in levels' times' z x) (cell₁ s j) ∙ same_low s j x

    -- what a commit that was read leads to had its slot before
    back : (i : ℕ) → i < k → (p : Id) → Mem p (links w (get_or l i [])) → (s : ℕ) → In width cap m₁ p s → In width cap m.lent p s
    back i j p e s d =
        let pl = place_of p l (v.seeking.growing.closed i j p e) in
        let hold : In width cap m.lent p (slot_at from m pl.0) = subst (λ (z : Id). In width cap m.lent z (slot_at from m pl.0)) pl.2 (v.seeking.lists.slots pl.0 (omega (arith, pl.1, v.seeking.lists.count))) in
        subst (In width cap m.lent p) (one-slot p (slot_at from m pl.0) s (o.spares.stays p (slot_at from m pl.0) hold) d) hold

    growing₁ : Growing w roots o.list (suc k)
    growing₁ =
        let rk : ReachedBy w roots (get_or l k []) = v.seeking.growing.sound (get_or l k []) (mem-at l k (omega (arith, v.seeking.lists.count))) in
        grow-read (grow-more v.seeking.growing o.grows o.lists.once (λ x j. reached-on rk (subst (λ (z : List Id). Mem x z) (sym a.links_are) j)))
        (omega (arith, o.grows.long, v.seeking.lists.count))
        (λ x j. o.grows.in_it x (subst (λ (z : List Id). Mem x z) a.links_are (subst (λ (z : Id). Mem x (links w z)) (at k h) j)))

    -- each parent has a slot, and each slot a cell
    pub right₁ : Right width (slots_in names₁ marks₁ levels' times') cap slot line₁
    right₁ = record { table = o.lists.table; small = o.named.small; room = omega (arith, o.lists.room, v.roomy.below); fits = omega (arith, low-slot, v.roomy.small) }

    pub slot_of : (p : Id) → Mem p hd.ids → (s : ℕ) × In width cap m₁ p s
    slot_of p j =
        let pl = place_of p o.list (o.grows.in_it p j) in
        (get_or line₁ (from + pl.0) 0, subst (λ (z : Id). In width cap m₁ z (get_or line₁ (from + pl.0) 0)) pl.2 (o.lists.slots pl.0 (omega (arith, pl.1, o.lists.count))))

    -- ---- their cells are lowered

    module _ {line₂ : List ℕ} (lo : Lowered width (slots_in names₁ marks₁ levels' times') cap slot hd.ids line₁ line₂) where
      abbrev m₂ : Held
      m₂ = held names₁ marks₁ levels' times' line₂

      slot₂ : (i : ℕ) → i < n → slot_at from m₂ i ≡ slot_at from m i
      slot₂ i j = lo.beyond (from + i) (omega (arith, v.roomy.below)) ∙ same-slot i j

      lists₂ : Lists width false cap from (lent names₁ marks₁ line₂) n' o.list
      lists₂ = record {
        table = o.lists.table;
        room = omega (arith, o.lists.room, lo.long);
        count = o.lists.count;
        once = o.lists.once;
        slots = λ i j. subst (In width cap m₁ (get_or o.list i [])) (sym (lo.beyond (from + i) (omega (arith, v.roomy.below)))) (o.lists.slots i j);
        marked = o.lists.marked;
        all = o.lists.all;
      }

      seeking₂ : Seeking width w u roots false cap from (lent names₁ marks₁ line₂) n' o.list (suc k)
      seeking₂ = record {
        lists = lists₂;
        named = record { few = o.named.few; small = o.named.small; inside = o.named.inside };
        growing = growing₁;
        readable = readable-read (readable-more v.seeking.readable v.seeking.growing.read o.grows) (subst (Readable w) (sym (at k h)) a.readable);
        roots_in = λ x j. o.grows.keeps x (v.seeking.roots_in x j);
        parents_in = v.seeking.parents_in;
      }

      sound₂ : (s : ℕ) (x : Pair) → s < cap → low_of m₂ s x ≡ true → UnderAll width w cap (lent names₁ marks₁ line₂) o.list (suc k) s x
      sound₂ s x j t i b p e d = ⊎_elim
          (λ f.
          let e' = subst (λ (z : Id). Mem p (links w z)) (at i (omega arith)) e in
          subst (λ (z : Id). lt_pair x (pair_at w z) ≡ true) (sym (at i (omega arith))) (v.sound s x j (sym (low₁ s j x) ∙ lo.keeps s x j t) i f p e' (back i f p e' s d)))
          (λ f.
          let e' = subst (λ (z : Id). Mem p (links w z)) (ap (λ (y : ℕ). get_or o.list y []) f ∙ at k h) e in
          subst (λ (z : Id). lt_pair x (pair_at w z) ≡ true) (sym (ap (λ (y : ℕ). get_or o.list y []) f ∙ at k h))
          (ap (lt_pair x) (sym this) ∙ lo.under s x j t p (subst (λ (z : List Id). Mem p z) a.links_are e') d))
          (last-place i k b)

      tight₂ : (s : ℕ) (x : Pair) → s < cap → UnderAll width w cap (lent names₁ marks₁ line₂) o.list (suc k) s x → low_of m₂ s x ≡ true
      tight₂ s x j all = lo.only s x j
          (low₁ s j x ∙ v.tight s x j (λ i b p e d. subst (λ (z : Id). lt_pair x (pair_at w z) ≡ true) (at i (omega arith))
          (all i (omega arith) p (subst (λ (z : Id). Mem p (links w z)) (sym (at i (omega arith))) e) (o.spares.stays p s d))))
          (λ p e d. ap (lt_pair x) this ∙ subst (λ (z : Id). lt_pair x (pair_at w z) ≡ true) (at k h)
          (all k (omega arith) p (subst (λ (z : Id). Mem p (links w z)) (sym (at k h)) (subst (λ (z : List Id). Mem p z) (sym a.links_are) e)) d))

      pub taken : Going width w u roots cap from m₂ n' o.list (suc k)
      taken = record {
        seeking = seeking₂;
        roomy = record {
          levels = omega (arith, v.roomy.levels, ap length sl, length-set m.levels slot q.generation);
          times = omega (arith, v.roomy.times, ap length st, length-set m.times slot q.time);
          below = v.roomy.below;
          small = v.roomy.small;
        };
        agrees = λ i j. ⊎_elim
            (λ f. subst (λ (z : Id). agrees_in w z ≡ true) (sym (at i (omega arith))) (v.agrees i f))
            (λ f. subst (λ (z : Id). agrees_in w z ≡ true) (sym (ap (λ (y : ℕ). get_or o.list y []) f ∙ at k h)) a.agrees)
            (last-place i k j);
        paired = λ i j. ap (slot_pair levels' times') (slot₂ i (omega arith)) ∙ ⊎_elim
            (λ f. still i f ∙ ap (pair_at w) (sym (at i (omega arith))))
            (λ f. ap (slot_pair levels' times') (ap (slot_at from m) f ∙ sym a.slot_is) ∙ this ∙ ap (pair_at w) (sym (ap (λ (y : ℕ). get_or o.list y []) f ∙ at k h)))
            (last-place i k j);
        cells = λ s j. ⊎_elim
            (λ e. ⊎_elim
            (λ z. inl (e ∙ cell₁ s j ∙ z))
            (λ z. inr (z.0, omega (arith, z.1), e ∙ cell₁ s j ∙ z.2 ∙ ap suc (sym (slot₂ z.0 (omega (arith, z.1))))))
            (v.cells s j))
            (λ e. inr (k, omega arith, e ∙ ap suc (a.slot_is ∙ sym (slot₂ k h))))
            (lo.cells s j);
        sound = sound₂;
        tight = tight₂;
      }
