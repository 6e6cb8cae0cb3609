-- After a search from each tip the common commits are those with both marks; each stains its parents but not itself, so the best ones are the
-- common ones that are not stained. Assumes nothing.
use mathlib.Core.Path.{◌≡◌, refl, sym, ◌∙◌, ap, subst}
use mathlib.Core.Logic.{⊎_elim}
use Prim.Native.Nat.{ℕ, ◌+◌, ◌<◌}
use mathlib.Core.Bool.{true, false, ◌&&◌}
use mathlib.Core.List.{List, []}
use native.Mathlib.Omega.{arith}
use lib.ListN.{get_or}
use lib.Dec.{eqb}
use Rattle.hash.specs.Bytes.{Id}
use Rattle.hash.proofs.Tests.{clash, not_yes, and_both, and_of}
use Rattle.hashtable.specs.Marks.{frontier}
use Rattle.hashtable.specs.Table.{cleared}
use Rattle.hashtable.proofs.TableClear.{cleared-low}
use Rattle.hashtable.proofs.TableView.{mark-held}
use Rattle.odb.specs.Store.{store_is_ok}
use Rattle.walk.specs.Lookup.{World, world_of}
use Rattle.walk.specs.Reach.{Mem, links}
use Rattle.reach.specs.Memory.{has_bit, Lent, mark_in, In}
use Rattle.reach.proofs.Growth.{place_of}
use Rattle.stain.specs.Stain.{both_in, Stains, BelowFirst}
use Rattle.parting.specs.Best.{Common, Best}
use Rattle.parting.specs.First.{goes_first, First}
use Rattle.parting.specs.Choice.{both_at, stain_at, id_at, Picked}
use Rattle.parting.specs.Searched.{Searched}
use Rattle.parting.proofs.Bests.{best-unparented, unparented-best, from_tip, into_list}

both_bits : (m : ℕ) → frontier m ≡ (has_bit false m && has_bit true m)
unfolding frontier has_bit
both_bits m = refl

module _ {width : ℕ} {w : World} {a b : Id} {cap : ℕ} {m : Lent} {n : ℕ} {l : List Id} (s : Searched width w a b cap m n l) where
  both-common : (x : Id) → both_in width m.names m.marks cap x ≡ true → Common w a b x
  both-common x e =
      let p : (has_bit false (mark_in width cap m x) ≡ true) × (has_bit true (mark_in width cap m x) ≡ true) = and_both (sym (both_bits (mark_in width cap m x)) ∙ e) in
      record { from_one = from_tip s.one-reached x (s.one.all x p.0); from-other = from_tip s.other-reached x (s.other.all x p.1) }

  common-both : (x : Id) → Common w a b x → both_in width m.names m.marks cap x ≡ true
  common-both x c =
      both_bits (mark_in width cap m x) ∙ and_of (s.one.marked x (into_list s.one-reached x c.from_one)) (s.other.marked x (into_list s.other-reached x c.from-other))

  -- the slot at a place holds the commit there
  pub in_place : (i : ℕ) → i < n → In width cap m (get_or l i []) (get_or m.line i 0)
  in_place i h = let z : 0 + i ≡ i = omega arith in subst (λ (j : ℕ). In width cap m (get_or l i []) (get_or m.line j 0)) z (s.one.slots i h)

  place-both : (i : ℕ) → i < n → both_at m.marks m.line i ≡ both_in width m.names m.marks cap (get_or l i [])
  place-both i h = sym (ap frontier (mark-held s.one.table (get_or m.line i 0) (in_place i h)))

  pub place-common : (i : ℕ) → i < n → both_at m.marks m.line i ≡ true → Common w a b (get_or l i [])
  place-common i h e = both-common (get_or l i []) (sym (place-both i h) ∙ e)

  -- every common commit has its place
  pub common-place : (x : Id) → Common w a b x → (i : ℕ) × (i < n) × (get_or l i [] ≡ x) × (both_at m.marks m.line i ≡ true)
  common-place x c =
      let o = place_of x l (into_list s.one-reached x c.from_one) in
      let h : o.0 < n = omega (arith, o.1, s.one.count) in
      (o.0, h, o.2, place-both o.0 h ∙ common-both (get_or l o.0 []) (subst (Common w a b) (sym o.2) c))

  module _ (levels : List ℕ) {levels' : List ℕ} (t : Stains width m.names m.marks cap (cleared cap levels) levels' (BelowFirst w (both_in width m.names m.marks cap) l n)) where
    -- a common commit that is not stained is best
    pub clean-best : (i : ℕ) → i < n → both_at m.marks m.line i ≡ true → stain_at levels' m.line i ≡ false → Best w a b (get_or l i [])
    clean-best i h e f = unparented-best (record {
      common = place-common i h e;
      no-child = λ y c d k.
          let o = common-place y c in
          clash
          (t.does (get_or l i []) (get_or m.line i 0) (in_place i h) (record {
            place = o.0;
            low = o.1;
            below = record {
              both = common-both (get_or l o.0 []) (subst (Common w a b) (sym o.2) c);
              parent = subst (λ (z : Id). Mem (get_or l i []) (links w z)) (sym o.2) k;
              other = λ q. d (sym o.2 ∙ q);
            };
          }))
          f;
    })

    -- and a best one is not stained
    pub best-clean : (i : ℕ) → i < n → Best w a b (get_or l i []) → stain_at levels' m.line i ≡ false
    best-clean i h g = not_yes (λ e. ⊎_elim
        (λ q. clash q (ap (λ (v : ℕ). eqb v 1) (cleared-low cap levels (get_or m.line i 0) (in_place i h).low)))
        (λ q. (best-unparented g).no-child (get_or l q.place []) (both-common (get_or l q.place []) q.below.both) q.below.other q.below.parent)
        (t.only (get_or l i []) (get_or m.line i 0) (in_place i h) e))

    -- what is chosen goes before every other best one
    pub chosen-first : {st : List ℕ} {slot : ℕ} (g : List ℕ) → w ≡ world_of width st g → store_is_ok width st ≡ true → (c : Picked width st m.names m.marks levels' m.line n slot) → First w a b (get_or l c.place [])
    chosen-first {st} {slot} g v ok c = record {
      best = clean-best c.place c.low c.both c.clean;
      first = λ y h d.
          let o = common-place y h.common in
          let here : id_at width m.names m.line c.place ≡ get_or l c.place [] = (in_place c.place c.low).is in
          let there : id_at width m.names m.line o.0 ≡ y = (in_place o.0 o.1).is ∙ o.2 in
          ap (λ (u : World). goes_first u (get_or l c.place []) y) v
          ∙ ap (λ (z : Id). goes_first (world_of width st g) z y) (sym here)
          ∙ ap (goes_first (world_of width st g) (id_at width m.names m.line c.place)) (sym there)
          ∙ c.first ok g o.0 o.1 o.3 (best-clean o.0 o.1 (subst (Best w a b) (sym o.2) h)) (λ e. d (sym there ∙ e ∙ here));
    }
