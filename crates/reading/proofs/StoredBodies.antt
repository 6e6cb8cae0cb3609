-- A commit read from the store alone: in a good store the body that is found is the one whose header the walk's world has, so what the header
-- reads as says whether the commit is readable, and its parent lines are the commit's links. Where there is none the body is empty, and
-- reads as bad. Assumes nothing.
use Rattle.object.specs.declared.HeaderError.{HeaderError}
use Rattle.object.specs.declared.HeaderError.TheVariants.{Bad, Crowded}
use Rattle.std.specs.Prelude.{Option, Some, Err}
use mathlib.Core.Path.{◌≡◌, refl, sym, ◌∙◌, ap, subst}
use Prim.Native.Nat.{ℕ}
use mathlib.Core.Bool.{true, false}
use mathlib.Core.List.{List, []}
use native.Mathlib.Omega.{arith}
use lib.ListN.{length}
use Rattle.hash.specs.Bytes.{Id}
use Rattle.hash.proofs.Tests.{clash}
use Rattle.date.specs.declared.Stamp.{Stamp}
use Rattle.object.specs.Header.{Header, header, id_line, strip}
use Rattle.object.specs.Read.{reading_of, Reading, readable_as}
use Rattle.odb.specs.Store.{store_is_ok}
use Rattle.odb.specs.Lookup.{part_of}
use Rattle.odb.specs.declared.Located.{Located}
use Rattle.odb.specs.declared.Located.TheVariants.{Body, Absent}
use Rattle.walk.specs.declared.Refusal.{Refusal}
use Rattle.walk.specs.declared.Refusal.TheVariants.{CommitUnreadable, TooManyParents}
use Rattle.walk.specs.Lookup.{world_of, Pair, no_generation, Read, fail, good, from_store, parents_of}
use Rattle.walk.specs.Reach.{links}
use Rattle.walk.specs.Demand.{Readable as IsReadable}
use Rattle.reading.specs.Stored.{GivesBody}
use Rattle.reading.specs.Whole.{body_commit, Tells}
use Rattle.reading.proofs.World.{located_body, located_none}
use Rattle.reading.proofs.Whole.{body-told, from-body}

-- ---- a header

-- a header that is readable, and what the walk reads of it
pub record GoodHeader (h : Header) (n : ℕ) (d : Read) : Type 0 where
  pub tree : h.tree ≡ true
  pub count : n ≡ length h.ids
  pub pair : Pair
  pub is : d ≡ good h.ids pair

tells_as : (h : Header) (r : Reading) → reading_of h ≡ r → Tells (body_commit 0 0 r) (from_store (Some h))
tells_as h r e = subst (λ (q : Reading). Tells (body_commit 0 0 q) (from_store (Some h))) e (body-told 0 0 h).tells

header-good : (h : Header) (n : ℕ) (t : Stamp) → reading_of h ≡ readable_as n t → GoodHeader h n (from_store (Some h))
header-good h n t e =
    let v = tells_as h (readable_as n t) e in
    let p : Pair = record { generation = no_generation; time = t.seconds.0 } in
    let f = from-body h v.parents (record { generation = no_generation; time = t.seconds.0 }) v.is in
    record { tree = f.0; count = v.count ∙ ap length (sym f.1); pair = p; is = v.is ∙ ap (λ (l : List Id). good l (record { generation = no_generation; time = t.seconds.0 })) (sym f.1) }

-- no part of nothing has a tree line
empty-tree : (w : ℕ) → (header w []).tree ≡ false
unfolding header id_line strip
empty-tree w = refl

fail-good : {X : Type 0} (r : Refusal) (ps : List Id) (p : Pair) → fail r ≡ good ps p → X
fail-good r ps p e = let z : ◌≡◌ {A = ℕ} 0 1 = cc in absurd (omega arith)

-- ---- the commit

module _ {w : ℕ} {s : List ℕ} {x : Id} {b : List ℕ} (v : GivesBody w s x b) (ok : store_is_ok w s ≡ true) (g : List ℕ) where
  -- a body that reads as readable is the commit's
  pub stored-good : (n : ℕ) (t : Stamp) → reading_of (header w b) ≡ readable_as n t → GoodHeader (header w b) n (from_store ((world_of w s g).store x))
  unfolding part_of
  stored-good n t e = go v.place refl
    where
      h : GoodHeader (header w b) n (from_store (Some (header w b)))
      h = header-good (header w b) n t e

      go : (o : Located) → v.place ≡ o → GoodHeader (header w b) n (from_store ((world_of w s g).store x))
      go (Body a c) p =
          subst (λ (o : Option Header). GoodHeader (header w b) n (from_store o)) (sym (located_body g a c v.locates p (v.is ∙ ap (part_of s) p) ok)) h
      go Absent p = clash h.tree (ap (λ (c : List ℕ). (header w c).tree) (v.is ∙ ap (part_of s) p) ∙ empty-tree w)

  pub stored-links : (n : ℕ) (t : Stamp) → reading_of (header w b) ≡ readable_as n t → links (world_of w s g) x ≡ (header w b).ids
  unfolding links parents_of
  stored-links n t e = ap parents_of (stored-good n t e).is

  pub stored-readable : (n : ℕ) (t : Stamp) → reading_of (header w b) ≡ readable_as n t → IsReadable (world_of w s g) x
  unfolding IsReadable
  stored-readable n t e = let h = stored-good n t e in ((header w b).ids, h.pair, h.is)

  -- one that the walk's reading refuses: the commit is not readable
  refused : (r : Refusal) → from_store (Some (header w b)) ≡ fail r → IsReadable (world_of w s g) x → ⊥
  unfolding IsReadable from_store
  refused r e d = go v.place refl
    where
      go : (o : Located) → v.place ≡ o → ⊥
      go (Body a c) p = fail-good r d.0 d.1 (sym e ∙ ap from_store (sym (located_body g a c v.locates p (v.is ∙ ap (part_of s) p) ok)) ∙ d.2)
      go Absent p = fail-good _ d.0 d.1 (sym (ap from_store (located_none g v.locates p ok)) ∙ d.2)

  pub stored-err : (r : HeaderError) → reading_of (header w b) ≡ Err r → IsReadable (world_of w s g) x → ⊥
  stored-err Bad e = refused CommitUnreadable (tells_as (header w b) (Err Bad) e)
  stored-err Crowded e = refused TooManyParents (tells_as (header w b) (Err Crowded) e)
