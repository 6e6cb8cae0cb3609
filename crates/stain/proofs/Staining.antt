-- One id after another is stained: the slot that holds it becomes 1, and no slot of another id; so over the parents of a commit, and over the
-- commits of the line. Assumes nothing.
use Rattle.std.specs.Prelude.{◌≢◌, Ok, Err}
use mathlib.Core.Path.{◌≡◌, refl, sym, ◌∙◌, ap, subst}
use mathlib.Core.Logic.{◌⊎◌, inl, inr, ⊎_elim}
use Prim.Native.Nat.{ℕ, ◌+◌, ◌≤◌, ◌<◌}
use mathlib.Core.Bool.{Bool, true, false, cond}
use mathlib.Core.List.Memᴰ
use mathlib.Core.List.{List, [], ◌∷◌, ◌++◌}
use native.Mathlib.Omega.{arith}
use lib.ListN.{length, take, get_or, set}
use lib.Seq.{take_all, get_or-set_same, get_or-set_other}
use lib.Dec.{eqb}
use borrow.Author.Tests.{eqb-true, eqb-false}
use Rattle.hash.specs.Bytes.{Id}
use Rattle.hash.proofs.Tests.{by_cases, clash}
use Rattle.date.specs.declared.Stamp.{Stamp}
use Rattle.odb.specs.Store.{store_is_ok}
use Rattle.object.specs.Header.{Header, header}
use Rattle.object.specs.Ids.{id_in, id_room}
use Rattle.object.specs.Read.{Reading, reading_of, readable_as}
use Rattle.object.specs.declared.ReadableHeader.{ReadableHeader}
use Rattle.object.specs.declared.ObjectId.{ObjectId}
use Rattle.hashtable.specs.Marks.{frontier}
use Rattle.hashtable.specs.Table.{id_of, Holds, Table, Finds}
use Rattle.hashtable.specs.declared.table.Slot.{Slot}
use Rattle.hashtable.specs.declared.table.Slot.TheVariants.{Found, Vacant, Full}
use Rattle.hashtable.proofs.TableView.{mark-held}
use Rattle.walk.specs.Lookup.{World, world_of, Read, fail, good, Pair, from_store, parents_of}
use Rattle.walk.specs.Reach.{Mem, links}
use Rattle.walk.specs.Demand.{Readable}
use Rattle.reading.specs.Body.{parent_id_at}
use Rattle.reading.specs.Stored.{GivesBody}
use Rattle.reading.proofs.IdLists.{one_more}
use Rattle.reading.proofs.Lines.{parent-right}
use Rattle.reading.proofs.StoredBodies.{stored-good, stored-links, stored-err}
use Rattle.reach.specs.Memory.{Lent, Lists}
use Rattle.reach.proofs.Growth.{last-place}
use Rattle.stain.specs.Stain.{stained_at, is_stained, Stains, Beside, StainsId, StainsParents, StainsCommit, both_in, Below, StainsAt, BelowFirst, StainsAll}

-- ---- what is stained

-- nothing is done
stains-not : {width : ℕ} {names marks levels : List ℕ} {cap : ℕ} (Q : Id → Type 0) → ((z : Id) (k : ℕ) → Holds width false names marks cap z k → Q z → ⊥) → Stains width names marks cap levels levels Q
stains-not Q n = record { keeps = λ k h. h; only = λ z k o h. inl h; does = λ z k o q. absurd (n z k o q) }

-- one after another
stains-then : {width : ℕ} {names marks levels levels₁ levels₂ : List ℕ} {cap : ℕ} {Q R : Id → Type 0} (S : Id → Type 0) → Stains width names marks cap levels levels₁ Q → Stains width names marks cap levels₁ levels₂ R
    → ((z : Id) → Q z ⊎ R z → S z) → ((z : Id) → S z → Q z ⊎ R z) → Stains width names marks cap levels levels₂ S
stains-then S a b f g = record {
  keeps = λ k h. b.keeps k (a.keeps k h);
  only = λ z k o h. ⊎_elim (λ i. ⊎_elim inl (λ q. inr (f z (inl q))) (a.only z k o i)) (λ r. inr (f z (inr r))) (b.only z k o h);
  does = λ z k o q. ⊎_elim (λ i. b.keeps k (a.does z k o i)) (λ i. b.does z k o i) (g z q);
}

-- the same stains under another name
stains_as : {width : ℕ} {names marks levels levels₁ : List ℕ} {cap : ℕ} {Q : Id → Type 0} (S : Id → Type 0) → Stains width names marks cap levels levels₁ Q → ((z : Id) → Q z → S z) → ((z : Id) → S z → Q z)
    → Stains width names marks cap levels levels₁ S
stains_as S a f g = record { keeps = a.keeps; only = λ z k o h. ⊎_elim inl (λ q. inr (f z q)) (a.only z k o h); does = λ z k o q. a.does z k o (g z q) }

-- a slot
module _ (levels : List ℕ) (k : ℕ) (room : k < length levels) where
  here-stained : is_stained (set levels k 1) k ≡ true
  here-stained = ap (λ (n : ℕ). eqb n 1) (get_or-set_same levels k 1 0 room)

  other-same : (j : ℕ) → (j ≡ k → ⊥) → is_stained (set levels k 1) j ≡ is_stained levels j
  other-same j n = ap (λ (n : ℕ). eqb n 1) (get_or-set_other levels k j 1 0 n)

  at-slot? : (j : ℕ) → (j ≡ k) ⊎ (j ≡ k → ⊥)
  at-slot? j = by_cases (eqb j k) (λ e. inl (eqb-true j k e)) (λ e. inr (eqb-false j k e))

  stains-slot : {width : ℕ} {names marks : List ℕ} {cap : ℕ} {x y : Id} → Table width false names marks cap → Holds width false names marks cap x k → (y ≡ x → ⊥)
      → Stains width names marks cap levels (set levels k 1) (Beside y (x ∷ []))
  stains-slot {width} {names} {marks} {cap} {x} {y} t h n = record {
    keeps = λ j g. ⊎_elim (λ q. ap (is_stained (set levels k 1)) q ∙ here-stained) (λ o. other-same j o ∙ g) (at-slot? j);
    only = λ z j o g. ⊎_elim
        (λ q. let e : z ≡ x = sym o.is ∙ ap (id_of width names) q ∙ h.is in inr (record { one = Memᴰ.head e; other = λ i. n (i ∙ e) }))
        (λ q. inl (sym (other-same j q) ∙ g))
        (at-slot? j);
    does = λ z j o i.
        let e : z ≡ x = Memᴰ.eq_of_singleton i.one in
        ap (is_stained (set levels k 1)) (t.once j k o.low h.low o.alive h.alive (o.is ∙ e ∙ sym h.is)) ∙ here-stained;
  }

-- ---- one id

module _ {width : ℕ} {names marks : List ℕ} {cap own : ℕ} {x : Id} {r : Slot} (f : Finds width false names marks cap x r) where
  pub id-found : {levels levels' : List ℕ} (k : ℕ) → r ≡ Found k → levels' ≡ stained_at own k levels → StainsId width names marks levels levels' cap own x
  unfolding stained_at
  id-found {levels} {levels'} k e q = record {
    right = λ t room y o.
        let h : Holds width false names marks cap x k = f.hit k e in
        by_cases (eqb k own)
        (λ b.
        let s : levels' ≡ levels = q ∙ ap (λ (c : Bool). cond c levels (set levels k 1)) b in
        let i : x ≡ y = sym h.is ∙ ap (id_of width names) (eqb-true k own b) ∙ o.is in
        subst (λ (l : List ℕ). Stains width names marks cap levels l (Beside y (x ∷ []))) (sym s)
        (stains-not (Beside y (x ∷ [])) (λ z j g m. m.other (sym i ∙ sym (Memᴰ.eq_of_singleton m.one)))))
        (λ b.
        let s : levels' ≡ set levels k 1 = q ∙ ap (λ (c : Bool). cond c levels (set levels k 1)) b in
        subst (λ (l : List ℕ). Stains width names marks cap levels l (Beside y (x ∷ []))) (sym s)
        (stains-slot levels k (omega (arith, h.low)) t h (λ i. eqb-false k own b (t.once k own h.low o.low h.alive o.alive (h.is ∙ sym i ∙ sym o.is)))));
  }

  id-missing : {levels : List ℕ} → ((k : ℕ) → r ≡ Found k → ⊥) → StainsId width names marks levels levels cap own x
  id-missing n = record {
    right = λ t room y o. stains-not (Beside y (x ∷ []))
        (λ z k g m. n k (f.all t k (subst (λ (a : Id). Holds width false names marks cap a k) (Memᴰ.eq_of_singleton m.one) g)));
  }

  pub id-vacant : {levels : List ℕ} (j : ℕ) → r ≡ Vacant j → StainsId width names marks levels levels cap own x
  id-vacant j e = id-missing (λ k q. let z : ◌≡◌ {A = ℕ} 0 1 = cc in absurd (omega arith))

  pub id-full : {levels : List ℕ} → r ≡ Full → StainsId width names marks levels levels cap own x
  id-full e = id-missing (λ k q. let z : ◌≡◌ {A = ℕ} 0 1 = cc in absurd (omega arith))

-- ---- the parents of a header

beside-more : {y : Id} {xs ys : List Id} (z : Id) → Beside y xs z ⊎ Beside y ys z → Beside y (xs ++ ys) z
beside-more {xs = xs} {ys = ys} z (inl q) = record { one = Memᴰ.append_left ys q.one; other = q.other }
beside-more {xs = xs} {ys = ys} z (inr q) = record { one = Memᴰ.append_right xs q.one; other = q.other }

beside-cases : {y : Id} (xs : List Id) {ys : List Id} (z : Id) → Beside y (xs ++ ys) z → Beside y xs z ⊎ Beside y ys z
beside-cases xs z q = ⊎_elim (λ i. inl (record { one = i; other = q.other })) (λ i. inr (record { one = i; other = q.other })) (Memᴰ.append_cases xs q.one)

-- a loop over the n parents of h, after i of them
pub record Passing (width : ℕ) (h : Header) (names marks levels₀ levels : List ℕ) (cap own n i : ℕ) : Type 0 where
  pub upto : i ≤ n
  pub long : length levels ≡ length levels₀
  pub so_far : h.tree ≡ true → n ≡ length h.ids → Table width false names marks cap → cap ≤ length levels₀ → (y : Id) → Holds width false names marks cap y own
      → Stains width names marks cap levels₀ levels (Beside y (take i h.ids))

pub passing_first : (width : ℕ) (h : Header) (names marks levels : List ℕ) (cap own n : ℕ) → Passing width h names marks levels levels cap own n 0
passing_first width h names marks levels cap own n = record { upto = omega arith; long = refl; so_far = λ g e t room y o. stains-not (Beside y []) (λ z k j m. Memᴰ.not-nil m.one) }

pub passing_next : {width : ℕ} → width ≤ id_room → {names marks levels₀ levels levels' : List ℕ} {cap own n i : ℕ} {x : Id} (b : List ℕ) (z : ObjectId) → Passing width (header width b) names marks levels₀ levels cap own n i → i < n
    → z.bytes ≡ parent_id_at width b i → x ≡ id_in width z.bytes → StainsId width names marks levels levels' cap own x → length levels' ≡ length levels → Passing width (header width b) names marks levels₀ levels' cap own n (i + 1)
passing_next {width} small {names} {marks} {levels₀} {levels} {levels'} {cap} {own} {n} {i} {x} b z v l give e o k = record {
  upto = omega arith;
  long = k ∙ v.long;
  so_far = λ g q t room y h.
      let xs = (header width b).ids in
      let is : x ≡ get_or xs i [] = e ∙ ap (id_in width) give ∙ parent-right width small b i g (omega arith) in
      subst (λ (ys : List Id). Stains width names marks cap levels₀ levels' (Beside y ys)) (sym (one_more xs i (omega arith) ∙ ap (λ (u : Id). take i xs ++ (u ∷ [])) (sym is)))
      (stains-then (Beside y (take i xs ++ (x ∷ []))) (v.so_far g q t room y h) (o.right t (omega (arith, v.long)) y h) beside-more (beside-cases (take i xs)));
}

pub passing_last : {width : ℕ} {h : Header} {names marks levels₀ levels : List ℕ} {cap own n i : ℕ} → Passing width h names marks levels₀ levels cap own n i → n ≤ i → StainsParents width h names marks levels₀ levels cap own n
passing_last {width} {h} {names} {marks} {levels₀} {levels} {cap} {own} {n} {i} v l = record {
  right = λ g q t room y o. subst (λ (ys : List Id). Stains width names marks cap levels₀ levels (Beside y ys)) (take_all i h.ids (omega arith)) (v.so_far g q t room y o);
}

-- ---- a commit

-- what is not readable has no links
no-parents : (r : Read) → ((ps : List Id) × (p : Pair) × (r ≡ good ps p) → ⊥) → parents_of r ≡ []
unfolding parents_of
no-parents (fail n) h = refl
no-parents (good ps p) h = absurd (h (ps, p, refl))

no-links : (w : World) (x : Id) → (Readable w x → ⊥) → links w x ≡ []
unfolding links Readable
no-links w x h = no-parents (from_store (w.store x)) h

module _ {width : ℕ} {s names : List ℕ} (marks levels : List ℕ) (cap : ℕ) {own : ℕ} {x : Id} {b : List ℕ} (e : x ≡ id_of width names own) (f : GivesBody width s x b) where
  -- the body in hand is that of the slot
  in_hand : {y : Id} → Holds width false names marks cap y own → GivesBody width s y b
  in_hand o = subst (λ (z : Id). GivesBody width s z b) (e ∙ o.is) f

  stains-none : ((y : Id) → GivesBody width s y b → store_is_ok width s ≡ true → (g : List ℕ) → Readable (world_of width s g) y → ⊥) → StainsCommit width s names marks levels levels cap own
  stains-none bars = record {
    right = λ ok g t room y o. stains-not (Beside y (links (world_of width s g) y))
        (λ z k h m. Memᴰ.not-nil (subst (λ (l : List Id). Mem z l) (no-links (world_of width s g) y (bars y (in_hand o) ok g)) m.one));
  }

  pub commit-not : ((h : ReadableHeader) → reading_of (header width b) ≢ Ok h) → StainsCommit width s names marks levels levels cap own
  commit-not d = stains-none (λ y i ok g. bars y i ok g (reading_of (header width b)) refl)
    where
      bars : (y : Id) → GivesBody width s y b → store_is_ok width s ≡ true → (g : List ℕ) → (r : Reading) → reading_of (header width b) ≡ r → Readable (world_of width s g) y → ⊥
      bars y i ok g (Ok h) e = absurd (d h e)
      bars y i ok g (Err r) e = stored-err i ok g r e

  pub commit-good : {levels' : List ℕ} (n : ℕ) (u : Stamp) → reading_of (header width b) ≡ readable_as n u → StainsParents width (header width b) names marks levels levels' cap own n
      → StainsCommit width s names marks levels levels' cap own
  commit-good {levels'} n u d p = record {
    right = λ ok g t room y o.
        let i = in_hand o in
        let q = stored-good i ok g n u d in
        subst (λ (l : List Id). Stains width names marks cap levels levels' (Beside y l)) (sym (stored-links i ok g n u d)) (p.right q.tree q.count t room y o);
  }

-- ---- where it has both marks

module _ {width : ℕ} {names marks : List ℕ} (cap : ℕ) {own m : ℕ} {b : Bool} (e : m ≡ get_or marks own 0) (f : b ≡ frontier m) where
  held : {y : Id} → Table width false names marks cap → Holds width false names marks cap y own → both_in width names marks cap y ≡ b
  held t o = ap frontier (mark-held t own o ∙ sym e) ∙ sym f

  pub at_both : {s levels levels' : List ℕ} → b ≡ true → StainsCommit width s names marks levels levels' cap own → StainsAt width s names marks levels levels' cap own
  at_both {s} i c = record {
    right = λ ok g t room y o. stains_as (Below (world_of width s g) (both_in width names marks cap) y) (c.right ok g t room y o)
        (λ z k. record { both = held t o ∙ i; parent = k.one; other = k.other })
        (λ z k. record { one = k.parent; other = k.other });
  }

  pub at_other : {s levels : List ℕ} → b ≡ false → StainsAt width s names marks levels levels cap own
  at_other {s} i = record { right = λ ok g t room y o. stains-not (Below (world_of width s g) (both_in width names marks cap) y) (λ z k h q. clash q.both (held t o ∙ i)) }

-- ---- the commits of the line

-- a loop over the line, after i places
pub record Lining (width : ℕ) (s : List ℕ) (m : Lent) (levels₀ levels : List ℕ) (cap n i : ℕ) : Type 0 where
  pub upto : i ≤ n
  pub long : length levels ≡ length levels₀
  pub so_far : store_is_ok width s ≡ true → (g : List ℕ) (l : List Id) → Lists width false cap 0 m n l → cap ≤ length levels₀
      → Stains width m.names m.marks cap levels₀ levels (BelowFirst (world_of width s g) (both_in width m.names m.marks cap) l i)

pub lining_first : (width : ℕ) (s : List ℕ) (m : Lent) (levels : List ℕ) (cap n : ℕ) → Lining width s m levels levels cap n 0
lining_first width s m levels cap n = record {
  upto = omega arith;
  long = refl;
  so_far = λ ok g l h room. stains-not (BelowFirst (world_of width s g) (both_in width m.names m.marks cap) l 0) (λ z k o q. absurd (omega (arith, q.low)));
}

module _ {w : World} {common : Id → Bool} {l : List Id} {i : ℕ} where
  below_more : (z : Id) → BelowFirst w common l i z ⊎ Below w common (get_or l i []) z → BelowFirst w common l (i + 1) z
  below_more z (inl q) = record { place = q.place; low = omega (arith, q.low); below = q.below }
  below_more z (inr q) = record { place = i; low = omega arith; below = q }

  below-cases : (z : Id) → BelowFirst w common l (i + 1) z → BelowFirst w common l i z ⊎ Below w common (get_or l i []) z
  below-cases z q = ⊎_elim
      (λ h. inl (record { place = q.place; low = h; below = q.below }))
      (λ h. inr (subst (λ (j : ℕ). Below w common (get_or l j []) z) h q.below))
      (last-place q.place i (omega (arith, q.low)))

pub lining_next : {width : ℕ} {s : List ℕ} {m : Lent} {levels₀ levels levels' : List ℕ} {cap n i slot : ℕ} → Lining width s m levels₀ levels cap n i → i < n → slot ≡ get_or m.line i 0
    → StainsAt width s m.names m.marks levels levels' cap slot → length levels' ≡ length levels → Lining width s m levels₀ levels' cap n (i + 1)
lining_next {width} {s} {m} {levels₀} {levels} {levels'} {cap} {n} {i} {slot} v l e o k = record {
  upto = omega arith;
  long = k ∙ v.long;
  so_far = λ ok g ids h room.
      let z : i ≡ 0 + i = omega arith in
      let in_it : Holds width false m.names m.marks cap (get_or ids i []) slot = subst (λ (j : ℕ). Holds width false m.names m.marks cap (get_or ids i []) j) (sym (e ∙ ap (λ (j : ℕ). get_or m.line j 0) z)) (h.slots i l) in
      stains-then (BelowFirst (world_of width s g) (both_in width m.names m.marks cap) ids (i + 1)) (v.so_far ok g ids h room) (o.right ok g h.table (omega (arith, v.long)) (get_or ids i []) in_it)
      below_more below-cases;
}

pub lining_last : {width : ℕ} {s : List ℕ} {m : Lent} {levels₀ levels : List ℕ} {cap n i : ℕ} → Lining width s m levels₀ levels cap n i → n ≤ i → StainsAll width s m levels₀ levels cap n
lining_last {width} {s} {m} {levels₀} {levels} {cap} {n} {i} v l = record {
  right = λ ok g ids h room.
      let e : i ≡ n = omega (arith, v.upto) in
      subst (λ (j : ℕ). Stains width m.names m.marks cap levels₀ levels (BelowFirst (world_of width s g) (both_in width m.names m.marks cap) ids j)) e (v.so_far ok g ids h room);
}
