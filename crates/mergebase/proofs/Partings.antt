-- The call step by step: after both searches and the stains the choice is right; the second search begins where the first has ended, and the
-- first in cleared memory. Assumes nothing.
use Rattle.std.specs.Prelude.{Some, None, Result, Ok, Err}
use mathlib.Core.Path.{◌≡◌, refl, sym, ◌∙◌, ap, subst}
use mathlib.Core.Logic.{⊎_elim}
use Prim.Native.Nat.{ℕ}
use mathlib.Core.Bool.{true, false}
use mathlib.Core.List.Memᴰ
use mathlib.Core.List.{List, [], ◌∷◌}
use native.Mathlib.Omega.{arith}
use lib.ListN.{length, get_or}
use Rattle.hash.specs.Bytes.{Id}
use Rattle.hash.proofs.Tests.{clash}
use Rattle.odb.specs.Store.{store_is_ok}
use Rattle.object.specs.Ids.{padded}
use Rattle.object.specs.declared.ObjectId.{ObjectId}
use Rattle.hashtable.specs.Table.{id_of, cleared}
use Rattle.hashtable.proofs.TableClear.{length_cleared}
use Rattle.walk.specs.Lookup.{World, world_of}
use Rattle.walk.specs.Reach.{Mem}
use Rattle.reach.specs.Search.{reach_names, Stuck, AllReadable}
use Rattle.reach.specs.Memory.{Lent, lent, In}
use Rattle.reach.specs.Seek.{refusal_of, ToldSought, Finds, SeeksFrom}
use Rattle.reach.specs.declared.seek.SeekError.{SeekError}
use Rattle.reach.specs.declared.seek.SeekError.TheVariants.{Unreadable, NoRoom}
use Rattle.reach.proofs.Noting.{listed-few}
use Rattle.reach.proofs.Starting.{empty-lists, empty-named, names-few, roots-met, parents-met, other-empty, other-kept}
use Rattle.stain.specs.Stain.{both_in, Stains, BelowFirst, StainsAll}
use Rattle.parting.specs.Best.{Best}
use Rattle.parting.specs.First.{First}
use Rattle.parting.specs.Choice.{Choice, ToldChoice, Chooses}
use Rattle.parting.specs.Searched.{Searched}
use Rattle.parting.proofs.Chosen.{in_place, place-common, common-place, best-clean, chosen-first}
use Rattle.mergebase.specs.Call.{FirstParts}
use Rattle.mergebase.specs.Memory.{Place, parted_of, answer_of, PartsAt, unreadable, nothing, first, tangled, BestOf, Begun, PartsFrom, Roomy, PartsTips}

-- ---- readable or not, from two tips

all_both : (w : World) (a b : Id) → AllReadable w (a ∷ []) → AllReadable w (b ∷ []) → AllReadable w (a ∷ b ∷ [])
unfolding AllReadable
all_both w a b p q x r = ⊎_elim
    (λ e. p x (record { root = r.root; lent = Memᴰ.head e; reaches = r.reaches }))
    (λ m. q x (record { root = r.root; lent = m; reaches = r.reaches }))
    (Memᴰ.cases_cons r.lent)

module _ {w : World} {a b : Id} where
  stuck-one : Stuck w (a ∷ []) → Stuck w (a ∷ b ∷ [])
  stuck-one s = record {
    commit = s.commit;
    reached = record { root = s.reached.root; lent = Memᴰ.head (Memᴰ.eq_of_singleton s.reached.lent); reaches = s.reached.reaches };
    unreadable = s.unreadable;
  }

  stuck-other : Stuck w (b ∷ []) → Stuck w (a ∷ b ∷ [])
  stuck-other s = record {
    commit = s.commit;
    reached = record { root = s.reached.root; lent = Memᴰ.tail s.reached.lent; reaches = s.reached.reaches };
    unreadable = s.unreadable;
  }

-- ---- the choice

module _ (width : ℕ) (s g : List ℕ) {a b : Id} {cap : ℕ} {m : Lent} {n : ℕ} {l : List Id} (ok : store_is_ok width s ≡ true) (h : Searched width (world_of width s g) a b cap m n l)
    (all : AllReadable (world_of width s g) (a ∷ b ∷ [])) (levels : List ℕ) {levels' : List ℕ}
    (t : Stains width m.names m.marks cap (cleared cap levels) levels' (BelowFirst (world_of width s g) (both_in width m.names m.marks cap) l n)) where
  chosen-parts : (r : Choice) → ToldChoice width s m.names m.marks levels' m.line n r → PartsAt width (world_of width s g) a b cap m (parted_of r)
  chosen-parts (Ok None) c = nothing all (λ x k. let o = common-place h x k in clash o.3 (c o.0 o.1))
  chosen-parts (Err x) c = tangled all (get_or l c.place []) (place-common h c.place c.low c.both) (λ y k.
      let o = common-place h y k.common in
      clash (c.stained o.0 o.1 o.3) (best-clean h levels t o.0 o.1 (subst (Best (world_of width s g) a b) (sym o.2) k)))
  chosen-parts (Ok (Some slot)) c =
      first all (get_or l c.place []) (chosen-first h levels t g refl ok c) slot (subst (In width cap m (get_or l c.place [])) c.is (in_place h c.place c.low))

pub best_chosen : {width : ℕ} {s : List ℕ} {m : Lent} {levels₁ levels₂ : List ℕ} {cap n : ℕ} {c : Choice} {r : Place} (levels : List ℕ) → levels₁ ≡ cleared cap levels → StainsAll width s m levels₁ levels₂ cap n
    → Chooses width s m.names m.marks levels₂ m.line n c → r ≡ parted_of c → BestOf width s m levels cap n r
best_chosen {width} {s} {m} {levels₁} {levels₂} {cap} {n} {c} {r} levels e st ch q = record {
  right = λ ok g a b l h all room.
      let t = (subst (λ (v : List ℕ). StainsAll width s m v levels₂ cap n) e st).right ok g l h.one (omega (arith, length_cleared cap levels)) in
      subst (PartsAt width (world_of width s g) a b cap m) (sym q) (chosen-parts width s g ok h all levels t c ch.told);
}

-- ---- the second search

module _ {width : ℕ} {s : List ℕ} {m m' : Lent} {cap : ℕ} {roots : List Id} {q : Result ℕ SeekError} (f : SeeksFrom width true cap cap s m m' roots q) where
  sought : store_is_ok width s ≡ true → (g : List ℕ) (u : List Id) (a b : Id) (l : List Id) (n : ℕ) → Begun width (world_of width s g) u a b cap m n l → roots ≡ b ∷ [] → (r : Result ℕ SeekError) → q ≡ r
      → ToldSought width (world_of width s g) u (b ∷ []) true cap cap m m' r
  sought ok g u a b l n h e r z =
      subst (λ (x : Result ℕ SeekError). ToldSought width (world_of width s g) u (b ∷ []) true cap cap m m' x) z
      ((subst (λ (x : List Id). SeeksFrom width true cap cap s m m' x q) e f).right ok g u h.other h.named
      (λ x k. subst (λ (y : Id). Mem y u) (sym (Memᴰ.eq_of_singleton k)) h.tip_in) h.parents_in)

  pub from-whole : {levels : List ℕ} {n : ℕ} {r : Place} (k : ℕ) → q ≡ Ok k → BestOf width s m' levels cap n r → PartsFrom width s m m' levels cap n roots r
  from-whole {levels} {n} {r} k z o = record {
    right = λ ok g u a b l h e room.
        let t : Finds width (world_of width s g) u (b ∷ []) true cap cap m m' k = sought ok g u a b l n h e (Ok k) z in
        o.right ok g a b l
        (record {
          one = other-kept t.spares 0 t.lists h.one (omega (arith, listed-few h.one h.named)) (omega arith);
          one-reached = h.reached;
          other-list = t.list;
          other_from = cap;
          other-count = k;
          other = t.lists;
          other-reached = t.reached;
        })
        (all_both (world_of width s g) a b h.readable t.readable)
        room;
  }

  pub from-short : {levels : List ℕ} {n : ℕ} (x : SeekError) → q ≡ Err x → PartsFrom width s m m' levels cap n roots (Err (refusal_of x))
  from-short {n = n} Unreadable z = record { right = λ ok g u a b l h e room. unreadable (stuck-other (sought ok g u a b l n h e (Err Unreadable) z)) }
  from-short {n = n} NoRoom z = record { right = λ ok g u a b l h e room. absurd (sought ok g u a b l n h e (Err NoRoom) z) }

-- ---- the first search, in cleared memory

module _ {width : ℕ} {s names marks line : List ℕ} {m₁ : Lent} {cap : ℕ} {marks₀ : List ℕ} {one : List Id} {q : Result ℕ SeekError} (c : marks₀ ≡ cleared cap marks)
    (f : SeeksFrom width false cap 0 s (lent names marks₀ line) m₁ one q) where
  begins : store_is_ok width s ≡ true → (g : List ℕ) (a b : Id) (levels : List ℕ) → Roomy width s (lent names marks line) levels cap → one ≡ a ∷ [] → (r : Result ℕ SeekError) → q ≡ r
      → ToldSought width (world_of width s g) (reach_names width s (a ∷ b ∷ [])) (a ∷ []) false cap 0 (lent names (cleared cap marks) line) m₁ r
  begins ok g a b levels h e r z =
      subst (λ (x : Result ℕ SeekError). ToldSought width (world_of width s g) (reach_names width s (a ∷ b ∷ [])) (a ∷ []) false cap 0 (lent names (cleared cap marks) line) m₁ x) z
      ((subst (λ (x : List Id). SeeksFrom width false cap 0 s (lent names (cleared cap marks) line) m₁ x q) e
      (subst (λ (x : List ℕ). SeeksFrom width false cap 0 s (lent names x line) m₁ one q) c f)).right ok g (reach_names width s (a ∷ b ∷ []))
      (empty-lists h.sized false 0 line (omega (arith, h.two_runs)))
      (empty-named width names marks line cap (reach_names width s (a ∷ b ∷ [])) (omega (arith, names-few width s (a ∷ b ∷ []) ok, h.enough)) h.small)
      (λ x k. roots-met width s (a ∷ b ∷ []) x (Memᴰ.head (Memᴰ.eq_of_singleton k)))
      (parents-met width s g (a ∷ b ∷ [])))

  pub tips-whole : {m' : Lent} {levels : List ℕ} {other : List Id} {r : Place} (n : ℕ) → q ≡ Ok n → length m₁.line ≡ length line → PartsFrom width s m₁ m' levels cap n other r
      → PartsTips width s (lent names marks line) m' levels cap one other r
  tips-whole {levels = levels} n z len o = record {
    right = λ ok g a b h e e'.
        let u = reach_names width s (a ∷ b ∷ []) in
        let t : Finds width (world_of width s g) u (a ∷ []) false cap 0 (lent names (cleared cap marks) line) m₁ n = begins ok g a b levels h e (Ok n) z in
        o.right ok g u a b t.list
        (record {
          one = t.lists;
          reached = t.reached;
          readable = t.readable;
          other = other-empty t.spares cap t.lists (empty-lists h.sized true cap line h.two_runs) (omega (arith, len, h.two_runs));
          named = t.named;
          tip_in = roots-met width s (a ∷ b ∷ []) b (Memᴰ.tail (Memᴰ.head refl));
          parents_in = parents-met width s g (a ∷ b ∷ []);
        })
        e'
        h.stains;
  }

  pub tips-short : {levels : List ℕ} {other : List Id} (x : SeekError) → q ≡ Err x → PartsTips width s (lent names marks line) m₁ levels cap one other (Err (refusal_of x))
  tips-short {levels = levels} Unreadable z = record { right = λ ok g a b h e e'. unreadable (stuck-one (begins ok g a b levels h e (Err Unreadable) z)) }
  tips-short {levels = levels} NoRoom z = record { right = λ ok g a b h e e'. absurd (begins ok g a b levels h e (Err NoRoom) z) }

-- ---- the answer

-- the slot holds the commit, so its id is the answer's
pub answers : {width : ℕ} {w : World} {a b : Id} {cap : ℕ} {m : Lent} {p : Place} → PartsAt width w a b cap m p → FirstParts w a b (answer_of width m.names p)
answers (unreadable s) = FirstParts.unreadable s
answers (nothing r n) = FirstParts.nothing r n
answers {width} {w} {a} {b} {m = m} (first r x h slot o) = FirstParts.first r _ (subst (First w a b) (sym o.is) h)
answers (tangled r x c n) = FirstParts.tangled r x c n

pub base-told : (width : ℕ) {o : ObjectId} {x : List ℕ} (names : List ℕ) (slot : ℕ) → o.bytes ≡ padded x → x ≡ id_of width names slot → Ok (Some o) ≡ answer_of width names (Ok (Some slot))
base-told width names slot e f = λ j. Ok (Some (record { bytes = (e ∙ ap padded f) j }))
