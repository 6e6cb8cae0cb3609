-- On any store the list of what some ids reach exists, and is no longer than the ids and the store's parent lines; so reaching is decided.
-- Assumes nothing.
use Rattle.std.specs.Prelude.{None, Option, Some}
use mathlib.Core.Path.{◌≡◌, refl, sym, subst}
use mathlib.Core.Logic.{◌⊎◌, inl, inr, ⊎_elim}
use Prim.Native.Nat.{ℕ, zero, suc, ◌+◌, ◌/◌, ◌≤◌, ◌<◌}
use mathlib.Core.Bool.{Bool, true, false, cond}
use mathlib.Core.List.Memᴰ
use mathlib.Core.List.{List, [], ◌∷◌, ◌++◌}
use native.Mathlib.Omega.{arith}
use lib.ListN.{length, get_or, length-append}
use lib.Dec.{ltb}
use borrow.Author.Tests.{ltb-true, ltb-false}
use Rattle.hash.specs.Bytes.{Id, among, if_some}
use Rattle.hash.proofs.Tests.{clash, some_of, some_in}
use Rattle.object.specs.Header.{Header, header, parent_size}
use Rattle.odb.specs.Store.{store_is_ok, store_find}
use Rattle.walk.specs.Lookup.{World, world_of, Read, fail, good, Pair, from_store, parents_of}
use Rattle.walk.specs.Reach.{Mem, NoDup, empty, links, Reaches, itself, through}
use Rattle.walk.specs.Demand.{Readable}
use Rattle.walk.proofs.Named.{fits}
use Rattle.walk.proofs.Open.{among-mem, mem-among}
use Rattle.walk.specs.Universe.{store_parents}
use Rattle.walk.proofs.Files.{find_parents, store_parents_length}
use Rattle.reading.proofs.Whole.{from-body}
use Rattle.reading.proofs.IdLists.{mem-at}
use Rattle.reach.specs.Search.{ReachedBy, Reached, Grows, noted, reached_from, reach_names, reach_list, Growing, AllReadable, Ends, whole, stuck}
use Rattle.reach.proofs.Growth.{mem?, each?, nodup_end, grows_none, grows-known, grows-new, grows_then, grow-none, grow-more, grow-read, reached-on, root-reached, grow-done}

-- ids are noted one after another
note_one : (l : List Id) (x : Id) → NoDup l → (b : Bool) → among x l ≡ b → Grows l (x ∷ []) (cond b l (l ++ (x ∷ []))) × NoDup (cond b l (l ++ (x ∷ [])))
note_one l x d true e = (grows-known (among-mem x l e), d)
note_one l x d false e = (grows-new l x, nodup_end d (λ m. clash (mem-among x l m) e))

note_all : (xs l : List Id) → NoDup l → Grows l xs (noted l xs) × NoDup (noted l xs)
unfolding noted
note_all [] l d = (grows_none l, d)
note_all (x ∷ xs) l d =
    let n = note_one l x d (among x l) refl in
    let a = note_all xs (cond (among x l) l (l ++ (x ∷ []))) n.1 in
    (grows_then n.0 a.0, a.1)

module _ {w : World} {roots : List Id} where
  -- a place past the end, or not
  at-end : (k : ℕ) (l on : List Id) (b : Bool) → ltb k (length l) ≡ b → (k < length l → Reached w roots on) → (length l ≤ k → Reached w roots l) → Reached w roots (cond b on l)
  at-end k l on true e f g = f (ltb-true k (length l) e)
  at-end k l on false e f g = g (ltb-false k (length l) e)

  -- the search as a whole: us has every id that can be met
  module _ (us : List Id) (within : (x : Id) → ReachedBy w roots x → Mem x us) where
    short : {l : List Id} {k : ℕ} → Growing w roots l k → length l ≤ length us
    short {l} g = fits l us g.once (λ x m. within x (g.sound x m))

    search : (n k : ℕ) (l : List Id) → Growing w roots l k → ((x : Id) → Mem x roots → Mem x l) → length us ≤ n + k → Reached w roots (reached_from w n k l)
    unfolding reached_from
    search zero k l g i h = grow-done g (omega (arith, short g)) i
    search (suc n) k l g i h = at-end k l (reached_from w n (suc k) (noted l (links w (get_or l k [])))) (ltb k (length l)) refl
        (λ o.
        let r : ReachedBy w roots (get_or l k []) = g.sound (get_or l k []) (mem-at l k o) in
        let a = note_all (links w (get_or l k [])) l g.once in
        let b = a.0 in
        let e : get_or (noted l (links w (get_or l k []))) k [] ≡ get_or l k [] = b.place k o in
        search n (suc k) (noted l (links w (get_or l k [])))
        (grow-read (grow-more g b a.1 (λ p m. reached-on r m)) (omega (arith, b.long)) (λ p m. b.in_it p (subst (λ (z : Id). Mem p (links w z)) e m)))
        (λ x m. b.keeps x (i x m))
        (omega arith))
        (λ o. grow-done g o i)

    pub closure : Reached w roots (reached_from w (length us) 0 (noted [] roots))
    closure =
        let a = note_all roots [] empty in
        search (length us) 0 (noted [] roots) (grow-more grow-none a.0 a.1 (λ x m. root-reached m)) a.0.in_it (omega arith)

-- ---- the ids that can be met

-- the parents that are read of a header are its own
ids_of_lem : (o : Option Header) (p : Id) → Mem p (parents_of (from_store o)) → (h : Header) × (o ≡ Some h) × Mem p h.ids
unfolding from_store parents_of
ids_of_lem None p m = absurd (Memᴰ.not-nil m)
ids_of_lem (Some h) p m = go (from_store (Some h)) refl m
  where
    go : (d : Read) → from_store (Some h) ≡ d → Mem p (parents_of d) → (k : Header) × (Some h ≡ Some k) × Mem p k.ids
    go (fail n) e k = absurd (Memᴰ.not-nil k)
    go (good ps q) e k = (h, refl, subst (λ (l : List Id). Mem p l) (sym (from-body h ps q e).1) k)

-- a parent stands in a parent line of the store
pub links-named : (width : ℕ) (store graph : List ℕ) (x p : Id) → Mem p (links (world_of width store graph) x) → Mem p (store_parents width store)
unfolding links world_of
links-named width store graph x p m =
    let a = ids_of_lem (if_some (store_find width store x) None (λ body. Some (header width body))) p m in
    let o = some_of (store_find width store x) (λ body. Some (header width body)) a.0 a.1 in
    let k : header width o.0 ≡ a.0 = some_in o.2 in
    find_parents width store x o.0 o.1 p (subst (λ (q : Header). Mem p q.ids) (sym k) a.2)

module _ (width : ℕ) (store graph : List ℕ) (roots : List Id) where
  met-from : (x t : Id) → Mem t (reach_names width store roots) → Reaches (world_of width store graph) x t → Mem x (reach_names width store roots)
  met-from x t m (itself e) = subst (λ (a : Id). Mem a (reach_names width store roots)) e m
  met-from x t m (through {p = p} k r) = met-from x p (Memᴰ.append_right roots (links-named width store graph t p k)) r

  pub reach-named : (x : Id) → ReachedBy (world_of width store graph) roots x → Mem x (reach_names width store roots)
  reach-named x r = met-from x r.root (Memᴰ.append_left (store_parents width store) r.lent) r.reaches

  -- the list that is computed has what they reach, on any store
  pub list-reached : Reached (world_of width store graph) roots (reach_list width store graph roots)
  unfolding reach_list
  list-reached = closure (reach_names width store roots) reach-named

  pub reach-list : (l : List Id) × Reached (world_of width store graph) roots l
  reach-list = (reach_list width store graph roots, list-reached)

  -- and a search never has more than P ids: roots and ⌊book bytes/48⌋
  pub reach-short : store_is_ok width store ≡ true → (l : List Id) → NoDup l → ((x : Id) → Mem x l → ReachedBy (world_of width store graph) roots x) → length l ≤ length roots + length store / parent_size width
  reach-short ok l d s =
      omega (arith, fits l (reach_names width store roots) d (λ x m. reach-named x (s x m)), length-append roots (store_parents width store), store_parents_length width store ok)

  pub reached? : (x : Id) → ReachedBy (world_of width store graph) roots x ⊎ (ReachedBy (world_of width store graph) roots x → ⊥)
  reached? x =
      let c = reach-list in
      ⊎_elim (λ m. inl (c.1.sound x m)) (λ n. inr (λ r. n (c.1.complete x r))) (mem? x c.0)

-- ---- readable or not

good? : (r : Read) → ((ps : List Id) × (p : Pair) × (r ≡ good ps p)) ⊎ ((ps : List Id) × (p : Pair) × (r ≡ good ps p) → ⊥)
good? (fail n) = inr (λ h. let e = h.2 in let z : ◌≡◌ {A = ℕ} 0 1 = cc in absurd (omega arith))
good? (good ps p) = inl (ps, p, refl)

pub readable? : (w : World) (x : Id) → Readable w x ⊎ (Readable w x → ⊥)
unfolding Readable
readable? w x = good? (from_store (w.store x))

-- a search ends
pub ends : (width : ℕ) (store graph : List ℕ) (roots : List Id) → Ends (world_of width store graph) roots
unfolding AllReadable
ends width store graph roots =
    let c = reach-list width store graph roots in
    ⊎_elim
    (λ a. whole c.0 c.1 (λ x r. a x (c.1.complete x r)))
    (λ b. stuck (record { commit = b.0; reached = c.1.sound b.0 b.1; unreadable = b.2 }))
    (each? (Readable (world_of width store graph)) (readable? (world_of width store graph)) c.0)
