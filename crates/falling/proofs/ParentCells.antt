-- The cells of parents: a right table has each parent's slot once, so exactly the cells of the parents' slots are lowered. Assumes nothing.
use mathlib.Core.Path.{◌≡◌, refl, sym, ◌∙◌, ap, subst}
use mathlib.Core.Logic.{◌⊎◌, inl, inr, ⊎_elim}
use Prim.Native.Nat.{ℕ, suc, ◌+◌, ◌*◌, ◌≤◌, ◌<◌}
use mathlib.Core.Bool.{true, false}
use mathlib.Core.List.Memᴰ
use mathlib.Core.List.{List, [], ◌∷◌, ◌++◌}
use native.Mathlib.Omega.{arith}
use lib.ListN.{length, take, get_or, set, length-set}
use lib.Seq.{take_all, get_or-set_same, get_or-set_other}
use lib.IntN.{ℤ}
use Rattle.hash.specs.Bytes.{Id}
use Rattle.hash.proofs.Tests.{clash, not_yes}
use Rattle.object.specs.Header.{Header, header}
use Rattle.object.specs.Ids.{id_in, id_room}
use Rattle.object.specs.declared.ObjectId.{ObjectId}
use Rattle.hashtable.specs.Table.{Finds}
use Rattle.hashtable.specs.declared.table.Slot.{Slot}
use Rattle.hashtable.specs.declared.table.Slot.TheVariants.{Found, Vacant, Full}
use Rattle.hashtable.proofs.TableIds.{same?}
use Rattle.walk.specs.Lookup.{Pair}
use Rattle.walk.specs.Reach.{Mem}
use Rattle.walk.proofs.Laws.{lt_pair_asym}
use Rattle.reading.specs.Body.{parent_id_at}
use Rattle.reading.proofs.IdLists.{mem-at, one_more}
use Rattle.reading.proofs.Lines.{parent-right}
use Rattle.reach.specs.Memory.{most_slots}
use Rattle.falling.specs.Cells.{slot_pair, low_in, lowered, low_at, SetsCell, FillsCell, Slots, HeldIn, Right, Lowered, LowersTo, LowersFrom, LowersNew}
use Rattle.falling.proofs.Lowest.{lowered-first, lowered-stays, lowered-cases, low_keeps, low-under, low-only}

-- ---- one slot

-- the cell of the one slot that holds x
module _ (width : ℕ) (a : Slots) (cap child : ℕ) {x : Id} (k : ℕ) (own : HeldIn width a cap x k) {line : List ℕ} (r : Right width a cap child line) where
  abbrev cell : ℕ
  cell = lowered a.levels a.times child (get_or line (2 * k) 0)

  module _ (hint : ℕ) {line' : List ℕ} (is : line' ≡ set (set line (2 * k) cell) (2 * k + 1) hint) where
    low : k < cap
    low = own.low

    at-it : get_or line' (2 * k) 0 ≡ cell
    at-it = ap (λ (z : List ℕ). get_or z (2 * k) 0) is ∙ get_or-set_other (set line (2 * k) cell) (2 * k + 1) (2 * k) hint 0 (λ q. omega arith)
        ∙ get_or-set_same line (2 * k) cell 0 (omega (arith, r.room, low))

    elsewhere : (j : ℕ) → (j ≡ 2 * k → ⊥) → (j ≡ 2 * k + 1 → ⊥) → get_or line' j 0 ≡ get_or line j 0
    elsewhere j m n = ap (λ (z : List ℕ). get_or z j 0) is ∙ get_or-set_other (set line (2 * k) cell) (2 * k + 1) j hint 0 n ∙ get_or-set_other line (2 * k) j cell 0 m

    other : (s : ℕ) → (s ≡ k → ⊥) → get_or line' (2 * s) 0 ≡ get_or line (2 * s) 0
    other s n = elsewhere (2 * s) (λ q. n (omega arith)) (λ q. omega arith)

    -- the slot that holds it is this one
    its : (s : ℕ) (p : Id) → Mem p (x ∷ []) → HeldIn width a cap p s → s ≡ k
    its s p m h = r.table.once s k h.low low h.alive own.alive (h.is ∙ Memᴰ.eq_of_singleton m ∙ sym own.is)

    here : (s : ℕ) (q : Pair) → s ≡ k → low_at line' a.levels a.times s q ≡ low_in a.levels a.times cell q
    here s q i = ap (λ (z : ℕ). low_at line' a.levels a.times z q) i ∙ ap (λ (z : ℕ). low_in a.levels a.times z q) at-it

    there : (s : ℕ) (q : Pair) → (s ≡ k → ⊥) → low_at line' a.levels a.times s q ≡ low_at line a.levels a.times s q
    there s q n = ap (λ (z : ℕ). low_in a.levels a.times z q) (other s n)

    before : (s : ℕ) (q : Pair) → s ≡ k → low_in a.levels a.times (get_or line (2 * k) 0) q ≡ low_at line a.levels a.times s q
    before s q i = ap (λ (z : ℕ). low_at line a.levels a.times z q) (sym i)

    one-lowered : Lowered width a cap child (x ∷ []) line line'
    one-lowered = record {
      long = ap length is ∙ length-set (set line (2 * k) cell) (2 * k + 1) hint ∙ length-set line (2 * k) cell;
      beyond = λ j h. elsewhere j (λ q. omega (arith, low)) (λ q. omega (arith, low));
      cells = λ s h. ⊎_elim
          (λ i. ⊎_elim (λ q. inl (ap (λ (z : ℕ). get_or line' (2 * z) 0) i ∙ at-it ∙ q ∙ ap (λ (z : ℕ). get_or line (2 * z) 0) (sym i))) (λ q. inr (ap (λ (z : ℕ). get_or line' (2 * z) 0) i ∙ at-it ∙ q))
          (lowered-cases a.levels a.times child (get_or line (2 * k) 0)))
          (λ n. inl (other s n))
          (same? s k);
      keeps = λ s q h t. ⊎_elim
          (λ i. sym (before s q i) ∙ low_keeps a.levels a.times child (get_or line (2 * k) 0) q (sym (here s q i) ∙ t))
          (λ n. sym (there s q n) ∙ t)
          (same? s k);
      under = λ s q h t p m d. low-under a.levels a.times child (get_or line (2 * k) 0) q (sym (here s q (its s p m d)) ∙ t);
      only = λ s q h t u. ⊎_elim
          (λ i. here s q i ∙ low-only a.levels a.times child (get_or line (2 * k) 0) q (before s q i ∙ t)
          (u x (Memᴰ.head refl) (subst (HeldIn width a cap x) (sym i) own)))
          (λ n. there s q n ∙ t)
          (same? s k);
    }

module _ (width : ℕ) (a : Slots) (cap child : ℕ) {x : Id} {o : Slot} (f : Finds width false a.names a.marks cap x o) where
  pub to-found : (k : ℕ) {hint : ℕ} {line line' : List ℕ} → o ≡ Found k → SetsCell a.levels a.times k child hint line line' → LowersTo width a cap child x line line'
  to-found k {hint} e sc = record { right = λ r s h. one-lowered width a cap child k (f.hit k e) r hint (sc.right r.fits) }

  -- there is no slot past the table's end
  pub to-far : (k : ℕ) {line line' : List ℕ} → o ≡ Found k → most_slots ≤ k → LowersTo width a cap child x line line'
  to-far k e h = record { right = λ r s d. absurd (omega (arith, (f.hit k e).low, r.small)) }

  pub to-vacant : (k : ℕ) {line line' : List ℕ} → o ≡ Vacant k → LowersTo width a cap child x line line'
  to-vacant k e = record { right = λ r s d. let c : Vacant k ≡ Found s = sym e ∙ f.all r.table s d in let z : ◌≡◌ {A = ℕ} 0 1 = cc in absurd (omega arith) }

  pub to-full : {line line' : List ℕ} → o ≡ Full → LowersTo width a cap child x line line'
  to-full e = record { right = λ r s d. let c : Full ≡ Found s = sym e ∙ f.all r.table s d in let z : ◌≡◌ {A = ℕ} 0 1 = cc in absurd (omega arith) }

-- ---- one parent after another

lowered_none : (width : ℕ) (a : Slots) (cap child : ℕ) (line : List ℕ) → Lowered width a cap child [] line line
lowered_none width a cap child line = record {
  long = refl;
  beyond = λ j h. refl;
  cells = λ s h. inl refl;
  keeps = λ s q h t. t;
  under = λ s q h t p m d. absurd (Memᴰ.not-nil m);
  only = λ s q h t u. t;
}

lowered-then : {width : ℕ} {a : Slots} {cap child : ℕ} {xs ys : List Id} {line line₁ line₂ : List ℕ} → Lowered width a cap child xs line line₁ → Lowered width a cap child ys line₁ line₂ → Lowered width a cap child (xs ++ ys) line line₂
lowered-then {width} {xs = xs} {ys = ys} v o = record {
  long = o.long ∙ v.long;
  beyond = λ j h. o.beyond j h ∙ v.beyond j h;
  cells = λ s h. ⊎_elim (λ e. ⊎_elim (λ f. inl (e ∙ f)) (λ f. inr (e ∙ f)) (v.cells s h)) inr (o.cells s h);
  keeps = λ s q h t. v.keeps s q h (o.keeps s q h t);
  under = λ s q h t p m d. ⊎_elim (λ k. v.under s q h (o.keeps s q h t) p k d) (λ k. o.under s q h t p k d) (Memᴰ.append_cases xs m);
  only = λ s q h t u. o.only s q h (v.only s q h t (λ p m. u p (Memᴰ.append_left ys m))) (λ p m. u p (Memᴰ.append_right xs m));
}

right-on : {width : ℕ} {a : Slots} {cap child : ℕ} {line line' : List ℕ} → Right width a cap child line → length line' ≡ length line → Right width a cap child line'
right-on r e = record { table = r.table; small = r.small; room = omega (arith, r.room); fits = r.fits }

-- after k of n
pub record LoweredTo (width : ℕ) (a : Slots) (cap child : ℕ) (h : Header) (n : ℕ) (line₀ line : List ℕ) (k : ℕ) : Type 0 where
  pub upto : k ≤ n
  pub long : length line ≡ length line₀
  pub so_far : Right width a cap child line₀ → h.tree ≡ true → n ≡ length h.ids → ((p : Id) → Mem p h.ids → (s : ℕ) × HeldIn width a cap p s) → Lowered width a cap child (take k h.ids) line₀ line

pub lowering_first : (width : ℕ) (a : Slots) (cap child : ℕ) (h : Header) (n : ℕ) (line : List ℕ) → LoweredTo width a cap child h n line line 0
lowering_first width a cap child h n line = record { upto = omega arith; long = refl; so_far = λ r t c p. lowered_none width a cap child line }

module _ {width : ℕ} {a : Slots} {cap child : ℕ} (b : List ℕ) {n : ℕ} {line₀ line : List ℕ} {k : ℕ} (v : LoweredTo width a cap child (header width b) n line₀ line k) where
  pub lowering-next : width ≤ id_room → k < n → {x : Id} (z : ObjectId) {line' : List ℕ} → z.bytes ≡ parent_id_at width b k → x ≡ id_in width z.bytes → length line' ≡ length line → LowersTo width a cap child x line line'
      → LoweredTo width a cap child (header width b) n line₀ line' (k + 1)
  lowering-next small h {x} z {line'} read given same o = record {
    upto = omega arith;
    long = same ∙ v.long;
    so_far = λ r t c p.
        let l = (header width b).ids in
        let e : x ≡ get_or (header width b).ids k [] = given ∙ ap (id_in width) read ∙ parent-right width small b k t (omega arith) in
        let d = p (get_or (header width b).ids k []) (mem-at (header width b).ids k (omega arith)) in
        subst (λ (ys : List Id). Lowered width a cap child ys line₀ line') (sym (one_more (header width b).ids k (omega arith) ∙ ap (λ (y : Id). take k (header width b).ids ++ (y ∷ [])) (sym e)))
        (lowered-then (v.so_far r t c p) (o.right (right-on r v.long) d.0 (subst (λ (y : Id). HeldIn width a cap y d.0) (sym e) d.1)));
  }

  pub lowering-last : n ≤ k → LowersFrom width a cap child (header width b) n line₀ line
  lowering-last h = record { right = λ r t c p. subst (λ (ys : List Id). Lowered width a cap child ys line₀ line) (take_all k (header width b).ids (omega arith)) (v.so_far r t c p) }

-- ---- parents that were all new

-- a cell that is empty or has the child already
filled : (levels : List ℕ) (times : List ℤ) (child c : ℕ) → (c ≡ 0) ⊎ (c ≡ suc child) → lowered levels times child c ≡ suc child
filled levels times child c (inl e) = ap (lowered levels times child) e ∙ lowered-first levels times child
filled levels times child c (inr e) =
    ap (lowered levels times child) e ∙ lowered-stays levels times child child (not_yes (λ h. clash h (lt_pair_asym (slot_pair levels times child) (slot_pair levels times child) h)))

-- after k of c
pub record NewTo (width : ℕ) (from n c child : ℕ) (line₀ line : List ℕ) (k : ℕ) : Type 0 where
  pub upto : k ≤ c
  pub long : length line ≡ length line₀
  pub so_far : (a : Slots) (cap : ℕ) → Right width a cap child line₀ → 2 * cap ≤ from → (xs : List Id) → c ≡ length xs
      → ((i : ℕ) → i < c → HeldIn width a cap (get_or xs i []) (get_or line₀ (from + n + i) 0)) → ((i : ℕ) → i < c → get_or line₀ (2 * get_or line₀ (from + n + i) 0) 0 ≡ 0) → Lowered width a cap child (take k xs) line₀ line

pub new-first : (width : ℕ) (from n c child : ℕ) (line : List ℕ) → NewTo width from n c child line line 0
new-first width from n c child line = record { upto = omega arith; long = refl; so_far = λ a cap r b xs e h z. lowered_none width a cap child line }

module _ {width : ℕ} {from n c child : ℕ} {line₀ line : List ℕ} {k : ℕ} (v : NewTo width from n c child line₀ line k) where
  pub new-next : k < c → {slot hint : ℕ} {line' : List ℕ} → slot ≡ get_or line (from + n + k) 0 → length line' ≡ length line → FillsCell slot child hint line line' → NewTo width from n c child line₀ line' (k + 1)
  new-next h {slot} {hint} {line'} at same o = record {
    upto = omega arith;
    long = same ∙ v.long;
    so_far = λ a cap r b xs e held z.
        let l = v.so_far a cap r b xs e held z in
        let is : slot ≡ get_or line₀ (from + n + k) 0 = at ∙ l.beyond (from + n + k) (omega arith) in
        let own : HeldIn width a cap (get_or xs k []) slot = subst (HeldIn width a cap (get_or xs k [])) (sym is) (held k h) in
        let value : lowered a.levels a.times child (get_or line (2 * slot) 0) ≡ suc child = filled a.levels a.times child (get_or line (2 * slot) 0)
        (⊎_elim (λ q. inl (q ∙ ap (λ (y : ℕ). get_or line₀ (2 * y) 0) is ∙ z k h)) inr (l.cells slot own.low)) in
        subst (λ (ys : List Id). Lowered width a cap child ys line₀ line') (sym (one_more xs k (omega arith)))
        (lowered-then l (one-lowered width a cap child slot own (right-on r v.long) hint (o.right r.fits ∙ ap (λ (y : ℕ). set (set line (2 * slot) y) (2 * slot + 1) hint) (sym value))));
  }

  pub new-last : c ≤ k → LowersNew width from n c child line₀ line
  new-last h = record { right = λ a cap r b xs e held z. subst (λ (ys : List Id). Lowered width a cap child ys line₀ line) (take_all k xs (omega arith)) (v.so_far a cap r b xs e held z) }

-- ---- the same of other ids with the same members

pub lowered-same : {width : ℕ} {a : Slots} {cap child : ℕ} {xs ys : List Id} {line line' : List ℕ} → ((p : Id) → Mem p xs → Mem p ys) → ((p : Id) → Mem p ys → Mem p xs) → Lowered width a cap child xs line line' → Lowered width a cap child ys line line'
lowered-same i j o = record {
  long = o.long;
  beyond = o.beyond;
  cells = o.cells;
  keeps = o.keeps;
  under = λ s q h t p m. o.under s q h t p (j p m);
  only = λ s q h t u. o.only s q h t (λ p m. u p (i p m));
}
