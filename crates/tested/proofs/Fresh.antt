-- Parents that were all new to the line: as many slots came as the commit has parents, so the new slots hold the parents and no others, and no commit
-- that was read leads to them, so their cells are empty. Assumes nothing.
use mathlib.Core.Path.{◌≡◌, sym, ◌∙◌, subst}
use mathlib.Core.Logic.{⊎_elim}
use Prim.Native.Nat.{ℕ, zero, suc, ◌+◌, ◌*◌, ◌<◌}
use mathlib.Core.Bool.{true, false}
use mathlib.Core.List.Memᴰ
use mathlib.Core.List.{List, [], ◌∷◌, ◌++◌}
use native.Mathlib.Omega.{arith}
use lib.ListN.{length, drop, get_or, set, length-append, length-drop}
use lib.IntN.{ℤ}
use lib.Seq.{get_or-drop}
use Rattle.hash.specs.Bytes.{Id}
use Rattle.hash.proofs.Tests.{clash}
use Rattle.object.specs.Header.{Header}
use Rattle.walk.specs.Lookup.{World, Pair, lt_pair}
use Rattle.walk.specs.Reach.{Mem, NoDup, more}
use Rattle.walk.proofs.Laws.{lt_pair_asym}
use Rattle.walk.proofs.Named.{fits}
use Rattle.reading.proofs.IdLists.{mem-at}
use Rattle.reach.specs.Memory.{lent, In, Went}
use Rattle.reach.proofs.Growth.{mem?, place_of, nodup_end}
use Rattle.falling.specs.Cells.{slots_in, Lowered, LowersNew}
use Rattle.falling.proofs.Lowest.{low-some}
use Rattle.falling.proofs.ParentCells.{lowered-same}
use Rattle.tested.specs.Passes.{Held, slot_at, pair_in, UnderAll, Going, InHand}
use Rattle.tested.proofs.Taking.{at, cell₁, right₁}

-- ---- the end of a list without repeats

mem_drop : (n : ℕ) (l : List Id) (x : Id) → Mem x (drop n l) → Mem x l
mem_drop zero l x m = m
mem_drop (suc n) [] x m = m
mem_drop (suc n) (y ∷ l) x m = Memᴰ.tail (mem_drop n l x m)

nodup_drop : (n : ℕ) (l : List Id) → NoDup l → NoDup (drop n l)
nodup_drop zero l d = d
nodup_drop (suc n) [] d = d
nodup_drop (suc n) (y ∷ l) (more k d) = nodup_drop n l d

apart : (n : ℕ) (l : List Id) → NoDup l → (i : ℕ) → i < n → i < length l → Mem (get_or l i []) (drop n l) → ⊥
apart zero l d i h b m = omega arith
apart (suc n) [] d i h b m = omega arith
apart (suc n) (y ∷ l) (more k d) zero h b m = k (mem_drop n l y m)
apart (suc n) (y ∷ l) (more k d) (suc i) h b m = apart n l d i (omega arith) (omega arith) m

module _ {width : ℕ} {w : World} {u roots : List Id} {cap from : ℕ} {m : Held} {n : ℕ} {l : List Id} {k : ℕ} (v : Going width w u roots cap from m n l k) (h : k < n)
    {slot : ℕ} {q : Pair} {hd : Header} {c : ℕ} (a : InHand w from m l k slot q hd c)
    {levels' : List ℕ} {times' : List ℤ} (sl : levels' ≡ set m.levels slot q.generation) (st : times' ≡ set m.times slot q.time)
    {names₁ marks₁ line₁ : List ℕ} {n' : ℕ} (o : Went width false cap from u m.lent (lent names₁ marks₁ line₁) l hd.ids n') (grown : n' ≡ n + c) where
  -- the ids of the new slots
  abbrev new : List Id
  new = drop n o.list

  count : c ≡ length (drop n o.list)
  count = omega (arith, length-drop n o.list, o.lists.count, grown)

  -- none of them was in the line
  not-old : (x : Id) → Mem x (drop n o.list) → Mem x l → ⊥
  not-old x e d =
      let pl = place_of x l d in
      let b : pl.0 < n = omega (arith, pl.1, v.seeking.lists.count) in
      let same : get_or o.list pl.0 [] ≡ x = at v h a sl st o pl.0 b ∙ pl.2 in
      apart n o.list o.lists.once pl.0 b (omega (arith, o.lists.count, grown)) (subst (λ (y : Id). Mem y (drop n o.list)) (sym same) e)

  are-parents : (x : Id) → Mem x (drop n o.list) → Mem x hd.ids
  are-parents x e = ⊎_elim (λ d. absurd (not-old x e d)) (λ d. d) (o.grows.cases x (mem_drop n o.list x e))

  -- one parent more would be one too many
  all-parents : (x : Id) → Mem x hd.ids → Mem x (drop n o.list)
  all-parents x e = ⊎_elim (λ d. d)
      (λ d.
      let f = fits (drop n o.list ++ (x ∷ [])) hd.ids (nodup_end (nodup_drop n o.list o.lists.once) d)
      (λ y j. ⊎_elim (are-parents y) (λ i. subst (λ (z : Id). Mem z hd.ids) (sym (Memᴰ.eq_of_singleton i)) e) (Memᴰ.append_cases (drop n o.list) j)) in
      absurd (omega (arith, f, length-append (drop n o.list) (x ∷ []), count, a.count)))
      (mem? x (drop n o.list))

  held_new : (i : ℕ) → i < c → In width cap (lent names₁ marks₁ line₁) (get_or (drop n o.list) i []) (get_or line₁ (from + n + i) 0)
  held_new i j =
      let p : from + (n + i) ≡ from + n + i = omega arith in
      subst (λ (z : Id). In width cap (lent names₁ marks₁ line₁) z (get_or line₁ (from + n + i) 0)) (sym (get_or-drop n o.list i []))
      (subst (λ (z : ℕ). In width cap (lent names₁ marks₁ line₁) (get_or o.list (n + i) []) (get_or line₁ z 0)) p (o.lists.slots (n + i) (omega (arith, grown))))

  -- a cell names a commit that lies above itself, or none
  empty-new : (i : ℕ) → i < c → get_or line₁ (2 * get_or line₁ (from + n + i) 0) 0 ≡ 0
  empty-new i j = cell₁ v h a sl st o s low ∙ ⊎_elim (λ e. e)
      (λ e.
      let x : Pair = pair_in m (slot_at from m e.0) in
      let t : lt_pair (pair_in m (slot_at from m e.0)) (pair_in m (slot_at from m e.0)) ≡ true =
      low-some m.levels m.times (get_or m.lent.line (2 * s) 0) (slot_at from m e.0) (pair_in m (slot_at from m e.0)) e.2 ∙ v.tight s (pair_in m (slot_at from m e.0)) low (none-leads (pair_in m (slot_at from m e.0))) in
      absurd (clash t (lt_pair_asym (pair_in m (slot_at from m e.0)) (pair_in m (slot_at from m e.0)) t)))
      (v.cells s low)
    where
      s : ℕ
      s = get_or line₁ (from + n + i) 0

      low : s < cap
      low = (held_new i j).low

      none-leads : (x : Pair) → UnderAll width w cap m.lent l k s x
      none-leads x b f p e d =
          let same : p ≡ get_or (drop n o.list) i [] = sym (o.spares.stays p s d).is ∙ (held_new i j).is in
          absurd (not-old p (subst (λ (z : Id). Mem z (drop n o.list)) (sym same) (mem-at (drop n o.list) i (omega (arith, count)))) (v.seeking.growing.closed b f p e))

  pub new-lowered : {line₂ : List ℕ} → LowersNew width from n c slot line₁ line₂ → Lowered width (slots_in names₁ marks₁ levels' times') cap slot hd.ids line₁ line₂
  new-lowered f = lowered-same are-parents all-parents (f.right (slots_in names₁ marks₁ levels' times') cap (right₁ v h a sl st o) v.roomy.below (drop n o.list) count held_new empty-new)
