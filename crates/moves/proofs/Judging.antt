-- The two functions with the memo: what is recalled is so, what is found out is noted, and so the memo holds what is so throughout. Assumes nothing.
use mathlib.Core.Path.{◌≡◌, refl, sym, ◌∙◌, ap, subst}
use mathlib.Core.Logic.{◌⊎◌, inl, inr, ⊎_elim}
use Prim.Native.Nat.{ℕ, zero, suc, ◌+◌, ◌-◌, ◌<◌, ◌≤◌}
use mathlib.Core.Bool.{Bool, true, false}
use mathlib.Core.List.{List, []}
use native.Mathlib.Omega.{arith}
use lib.ListN.{length, get_or}
use lib.Dec.{eqb, ltb}
use borrow.Author.Tests.{ltb-true, ltb-false}
use Rattle.hash.specs.Bytes.{Id, among}
use Rattle.hash.proofs.Tests.{by_cases}
use Rattle.object.specs.Header.{header}
use Rattle.object.specs.Ids.{id_in, id_room}
use Rattle.object.specs.Read.{reading_of}
use Rattle.object.specs.declared.ObjectId.{ObjectId}
use Rattle.odb.specs.Store.{standing_entries, store_is_ok}
use Rattle.walk.specs.Reach.{links}
use Rattle.reading.specs.Body.{parent_id_at}
use Rattle.reading.specs.Stored.{GivesBody}
use Rattle.memo.specs.Cells.{code_of, recalled, noted, Holds}
use Rattle.memo.specs.AtHand.{store_alone, id_at, EntryOf, parents_read, ParentsIn}
use Rattle.memo.proofs.Cells.{recall-known, note-holds, code_test, before_or_at}
use Rattle.memo.proofs.Parents.{parents_in}
use Rattle.moves.specs.Game.{bedForced, forced, first_of}
use Rattle.moves.specs.Remembered.{played, Remembers, Lists, Settles, Judges, FindsFirst}
use Rattle.moves.proofs.Turns.{forced-listed, forced-still, other, end_of, turn-found, turn-ended, first-at, first-none}

module _ (width : ℕ) (s : List ℕ) (list : List Id) {n : ℕ} (sn : n ≡ standing_entries width s) (k : ℕ) where
  -- ---- what is recalled and noted

  -- a cell that is known has what is so of the commit at hand
  pub recall-says : {m : List ℕ} {x : Id} {r : ℕ} (bed : Bool) (d : ℕ) → r ≡ recalled m n k bed d → (r ≡ 0 → ⊥) → EntryOf width s (standing_entries width s) x k → Remembers width s list m
      → r ≡ code_of (forced (store_alone width s) list bed d x)
  recall-says {m} {x} {r} bed d e z o h =
      let f : r ≡ recalled m (standing_entries width s) k bed d = e ∙ ap (λ (q : ℕ). recalled m q k bed d) sn in
      let g = recall-known h k bed d (λ y. z (f ∙ y)) in
      f ∙ g.1 ∙ ap (λ (y : Id). code_of (forced (store_alone width s) list bed d y)) (o.is g.0)

  pub note-says : {m m' : List ℕ} {x : Id} {r : Bool} (bed : Bool) (d : ℕ) → m' ≡ noted m n k bed d r → EntryOf width s (standing_entries width s) x k → r ≡ forced (store_alone width s) list bed d x
      → Remembers width s list m → Remembers width s list m'
  note-says {m} {m'} {x} {r} bed d e o q h =
      subst (Remembers width s list) (sym (e ∙ ap (λ (i : ℕ). noted m i k bed d r) sn))
      (note-holds h k bed d r (λ l. ap (λ (y : Id). forced (store_alone width s) list bed d y) (o.is l) ∙ sym q))

  -- ---- the list

  pub listed-known : {m : List ℕ} {x : Id} {r : ℕ} → r ≡ recalled m n k false 0 → (r ≡ 0 → ⊥) → Lists width s list k x m m (eqb r 2)
  listed-known {m} {x} {r} e z = record {
    right = λ o h. (ap (λ (q : ℕ). eqb q 2) (recall-says false 0 e z o h) ∙ code_test (forced (store_alone width s) list false 0 x) ∙ forced-still (store_alone width s) list false 0 x refl, h);
  }

  pub listed-new : {m m' : List ℕ} {x : Id} {r : Bool} → r ≡ among x list → m' ≡ noted m n k false 0 r → Lists width s list k x m m' r
  listed-new {m} {m'} {x} {r} e f = record { right = λ o h. (e, note-says false 0 f o (e ∙ sym (forced-still (store_alone width s) list false 0 x refl)) h) }

  -- ---- what is settled without a move

  module _ {m : List ℕ} {x : Id} (bed : Bool) (d : ℕ) where
    pub settled-known : {r : ℕ} → r ≡ recalled m n k bed d → (r ≡ 0 → ⊥) → Settles width s list k bed d x m m r
    settled-known e z = record { left = λ y. absurd (z y); keeps = λ o h. h; open' = λ o h y. absurd (z y); known = λ o h y. recall-says bed d e z o h }

    module _ {m' : List ℕ} {r : Bool} (v : Lists width s list k x m m' r) where
      pub settled-listed : r ≡ true → Settles width s list k bed d x m m' 2
      settled-listed e = record {
        left = λ y. absurd (omega arith);
        keeps = λ o h. (v.right o h).1;
        open' = λ o h y. absurd (omega arith);
        known = λ o h y. ap code_of (sym (forced-listed (store_alone width s) list bed d x (sym (v.right o h).0 ∙ e)));
      }

      pub settled-still : r ≡ false → d ≡ 0 → Settles width s list k bed d x m m' 1
      settled-still e z = record {
        left = λ y. absurd (omega arith);
        keeps = λ o h. (v.right o h).1;
        open' = λ o h y. absurd (omega arith);
        known = λ o h y. ap code_of (sym (forced-still (store_alone width s) list bed d x z ∙ sym (v.right o h).0 ∙ e));
      }

      pub settled-open : r ≡ false → (d ≡ 0 → ⊥) → Settles width s list k bed d x m m' 0
      settled-open e z = record {
        left = λ y. omega (arith, z);
        keeps = λ o h. (v.right o h).1;
        open' = λ o h y. sym (v.right o h).0 ∙ e;
        known = λ o h y. absurd (y refl);
      }

  -- ---- a turn

  pub judge-settled : {m m' : List ℕ} {x : Id} {r : ℕ} {bed : Bool} {d : ℕ} → EntryOf width s n x k → Settles width s list k bed d x m m' r → (r ≡ 0 → ⊥) → Judges width s list bed d x m m' (eqb r 2)
  judge-settled {x = x} {bed = bed} {d} o v z =
      let p : EntryOf width s (standing_entries width s) x k = record { is = λ h. o.is (omega arith) } in
      record { right = λ ok h. (ap (λ (q : ℕ). eqb q 2) (v.known p h z) ∙ code_test (forced (store_alone width s) list bed d x), v.keeps p h) }

-- the same under another name of the commit
pub judged_as : {width : ℕ} {s : List ℕ} {list : List Id} {bed : Bool} {d : ℕ} {x y : Id} {m m' : List ℕ} {r : Bool} → x ≡ y → Judges width s list bed d x m m' r → Judges width s list bed d y m m' r
judged_as {width} {s} {list} {bed} {d} {m = m} {m'} {r} e v = subst (λ (y : Id). Judges width s list bed d y m m' r) e v

pub found_as : {width : ℕ} {s : List ℕ} {list : List Id} {d : ℕ} {x y : Id} {m m' : List ℕ} {r : ℕ} → x ≡ y → FindsFirst width s list d x m m' r → FindsFirst width s list d y m m' r
found_as {width} {s} {list} {d} {m = m} {m'} {r} e v = subst (λ (y : Id). FindsFirst width s list d y m m' r) e v

-- the loop over the parents in the body b: none of the first i decides the turn
pub record Turning (width : ℕ) (s : List ℕ) (list : List Id) (bed : Bool) (e : ℕ) (b m₀ m : List ℕ) (i : ℕ) : Type 0 where
  pub long : length m ≡ length m₀
  pub so_far : store_is_ok width s ≡ true → Remembers width s list m₀ → Remembers width s list m × ((j : ℕ) → j < i → forced (store_alone width s) list (other bed) e (id_in width (parent_id_at width b j)) ≡ bed)

pub turning_first : (width : ℕ) (s : List ℕ) (list : List Id) (bed : Bool) (e : ℕ) (b m : List ℕ) → Turning width s list bed e b m m 0
turning_first width s list bed e b m = record { long = refl; so_far = λ ok h. (h, λ j l. absurd (omega arith)) }

-- the parent i of the body b
pub record Parent (width : ℕ) (s : List ℕ) (x : Id) (i : ℕ) (y : Id) : Type 0 where
  pub low : store_is_ok width s ≡ true → i < length (links (store_alone width s) x)
  pub is : store_is_ok width s ≡ true → y ≡ get_or (links (store_alone width s) x) i []

pub body-parents : {width : ℕ} → width ≤ id_room → {s : List ℕ} {x : Id} {b : List ℕ} {n : ℕ} → GivesBody width s x b → n ≡ parents_read (reading_of (header width b)) → store_is_ok width s ≡ true → ParentsIn width s x b n
body-parents {width} small {s} {x} {b} v e ok = subst (ParentsIn width s x b) (sym e) (parents_in small v ok (reading_of (header width b)) refl)

pub parent-at : {width : ℕ} → width ≤ id_room → {s : List ℕ} {x : Id} {b : List ℕ} {n i : ℕ} (z : ObjectId) → GivesBody width s x b → n ≡ parents_read (reading_of (header width b)) → i < n → z.bytes ≡ parent_id_at width b i → Parent width s x i (id_in width z.bytes)
parent-at {width} small {i = i} z v e h f = record {
  low = λ ok. omega (arith, (body-parents small v e ok).count);
  is = λ ok. ap (id_in width) f ∙ (body-parents small v e ok).each i h;
}

module _ {width : ℕ} {s : List ℕ} {list : List Id} {bed : Bool} {e : ℕ} {b m₀ m : List ℕ} {i : ℕ} (v : Turning width s list bed e b m₀ m i) where
  pub turning-next : {m' : List ℕ} {r : Bool} (z : ObjectId) → z.bytes ≡ parent_id_at width b i → Judges width s list (other bed) e (id_in width z.bytes) m m' r → r ≡ bed → length m' ≡ length m
      → Turning width s list bed e b m₀ m' (i + 1)
  turning-next {m'} {r} z p o q l = record {
    long = l ∙ v.long;
    so_far = λ ok h.
        let a = v.so_far ok h in
        let u = o.right ok a.0 in
        let here : forced (store_alone width s) list (other bed) e (id_in width (parent_id_at width b i)) ≡ bed =
        ap (λ (c : Id). forced (store_alone width s) list (other bed) e (id_in width c)) (sym p) ∙ sym u.0 ∙ q in
        (u.1, λ j g. ⊎_elim (λ d. subst (λ (c : ℕ). forced (store_alone width s) list (other bed) e (id_in width (parent_id_at width b c)) ≡ bed) (sym d) here) (λ d. a.1 j d) (before_or_at i j g));
  }

-- the whole turn: settled by no memo, then parent by parent, then noted
module _ {width : ℕ} (small : width ≤ id_room) {s : List ℕ} {list : List Id} {n : ℕ} (sn : n ≡ standing_entries width s) {bed : Bool} {d : ℕ} {x : Id} {k : ℕ} {b m m₀ m₁ : List ℕ} {i r c : ℕ} (o : EntryOf width s n x k)
    (t : Settles width s list k bed d x m m₀ r) (z : r ≡ 0) (y : GivesBody width s x b) (cs : c ≡ parents_read (reading_of (header width b))) (v : Turning width s list bed (d - 1) b m₀ m₁ i) where
  at-hand : EntryOf width s (standing_entries width s) x k
  at-hand = record { is = λ h. o.is (omega arith) }

  one_more : d ≡ suc (d - 1)
  one_more = let h : 0 < d = t.left z in omega arith

  -- a parent decides it
  pub judge-found : {m₂ m₃ : List ℕ} {q : Bool} (u : ObjectId) → i < c → u.bytes ≡ parent_id_at width b i → Judges width s list (other bed) (d - 1) (id_in width u.bytes) m₁ m₂ q → q ≡ other bed
      → m₃ ≡ noted m₂ n k bed d (other bed) → Judges width s list bed d x m m₃ (other bed)
  judge-found {m₂} {m₃} {q} u l w j e f = record {
    right = λ ok h.
        let p = parent-at small u y cs l w in
        let a = v.so_far ok (t.keeps at-hand h) in
        let g = j.right ok a.0 in
        let there : forced (store_alone width s) list (other bed) (d - 1) (get_or (links (store_alone width s) x) i []) ≡ other bed =
        ap (λ (c : Id). forced (store_alone width s) list (other bed) (d - 1) c) (sym (p.is ok)) ∙ sym g.0 ∙ e in
        let so : other bed ≡ forced (store_alone width s) list bed d x =
        sym (ap (λ (c : ℕ). forced (store_alone width s) list bed c x) one_more ∙ turn-found (store_alone width s) list x (t.open' at-hand h z) bed (d - 1) i (p.low ok) there) in
        (so, note-says width s list sn k bed d f at-hand so g.1);
  }

  -- none does
  pub judge-ended : {m₂ : List ℕ} {q : Bool} → c ≤ i → q ≡ end_of bed c → m₂ ≡ noted m₁ n k bed d q → Judges width s list bed d x m m₂ q
  judge-ended {m₂} {q} l u f = record {
    right = λ ok h.
        let a = v.so_far ok (t.keeps at-hand h) in
        let p = body-parents small y cs ok in
        let w : length (links (store_alone width s) x) ≡ c = p.count in
        let every : (j : ℕ) → j < length (links (store_alone width s) x) → forced (store_alone width s) list (other bed) (d - 1) (get_or (links (store_alone width s) x) j []) ≡ bed =
        λ j e. ap (λ (i : Id). forced (store_alone width s) list (other bed) (d - 1) i) (sym (p.each j (omega (arith, w)))) ∙ a.1 j (omega (arith, w)) in
        let so : q ≡ forced (store_alone width s) list bed d x =
        u ∙ ap (end_of bed) (sym w) ∙ sym (ap (λ (j : ℕ). forced (store_alone width s) list bed j x) one_more ∙ turn-ended (store_alone width s) list x (t.open' at-hand h z) bed (d - 1) every) in
        (so, note-says width s list sn k bed d f at-hand so a.0);
  }

-- ---- the first forcing parent

module _ {width : ℕ} (small : width ≤ id_room) {s : List ℕ} {list : List Id} {d : ℕ} {x : Id} {b m m₁ : List ℕ} {i c : ℕ} (y : GivesBody width s x b) (cs : c ≡ parents_read (reading_of (header width b)))
    (v : Turning width s list false d b m m₁ i) where
  none_before : store_is_ok width s ≡ true → Remembers width s list m → (j : ℕ) → j < i → j < c → bedForced d (store_alone width s) list (get_or (links (store_alone width s) x) j []) ≡ false
  none_before ok h j e f = ap (λ (q : Id). bedForced d (store_alone width s) list q) (sym ((body-parents small y cs ok).each j f)) ∙ (v.so_far ok h).1 j e

  pub first_found : {m₂ : List ℕ} {q : Bool} (u : ObjectId) → i < c → u.bytes ≡ parent_id_at width b i → Judges width s list true d (id_in width u.bytes) m₁ m₂ q → q ≡ true → FindsFirst width s list d x m m₂ i
  first_found {m₂} {q} u l w j e = record {
    right = λ ok h.
        let p = parent-at small u y cs l w in
        let a = v.so_far ok h in
        let g = j.right ok a.0 in
        let there : bedForced d (store_alone width s) list (get_or (links (store_alone width s) x) i []) ≡ true = ap (λ (r : Id). bedForced d (store_alone width s) list r) (sym (p.is ok)) ∙ sym g.0 ∙ e in
        (sym (first-at (λ r. bedForced d (store_alone width s) list r) (links (store_alone width s) x) i (p.low ok) there (λ k f. none_before ok h k f (omega arith))), g.1);
  }

  pub first_ended : i ≡ c → FindsFirst width s list d x m m₁ i
  first_ended l = record {
    right = λ ok h.
        let w : length (links (store_alone width s) x) ≡ c = (body-parents small y cs ok).count in
        (l ∙ sym w ∙ sym (first-none (λ q. bedForced d (store_alone width s) list q) (links (store_alone width s) x) (λ j p. none_before ok h j (omega (arith, w)) (omega (arith, w)))), (v.so_far ok h).0);
  }
