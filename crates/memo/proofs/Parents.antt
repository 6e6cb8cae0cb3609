-- The parents of a commit by the store alone: of a readable body its parent lines, of any other none. Assumes nothing.
use Rattle.std.specs.Prelude.{Ok, Err}
use mathlib.Core.Path.{◌≡◌, refl, sym, ◌∙◌, ap}
use Prim.Native.Nat.{ℕ, ◌<◌, ◌≤◌}
use mathlib.Core.Bool.{true}
use mathlib.Core.List.{List, []}
use native.Mathlib.Omega.{arith}
use lib.ListN.{length, get_or}
use Rattle.hash.specs.Bytes.{Id}
use Rattle.object.specs.Header.{header}
use Rattle.object.specs.Ids.{id_in, id_room}
use Rattle.object.specs.Read.{reading_of, Reading}
use Rattle.date.specs.declared.Stamp.{Stamp}
use Rattle.odb.specs.Store.{store_is_ok}
use Rattle.walk.specs.Lookup.{World, Read, fail, good, from_store, parents_of}
use Rattle.walk.specs.Reach.{links}
use Rattle.walk.specs.Demand.{Readable as IsReadable}
use Rattle.reading.specs.Body.{parent_id_at}
use Rattle.reading.specs.Stored.{GivesBody}
use Rattle.reading.proofs.Lines.{parent-right}
use Rattle.reading.proofs.StoredBodies.{stored-good, stored-links, stored-err}
use Rattle.memo.specs.AtHand.{store_alone, parents_read, ParentsIn}

-- a commit that is not readable leads no further
pub no-links : (w : World) (x : Id) → (IsReadable w x → ⊥) → links w x ≡ []
unfolding links IsReadable parents_of
no-links w x h = go (from_store (w.store x)) refl
  where
    go : (r : Read) → from_store (w.store x) ≡ r → parents_of r ≡ []
    go (fail n) e = refl
    go (good ps p) e = absurd (h (ps, p, e))

none_in : {width : ℕ} {s : List ℕ} {x : Id} {b : List ℕ} → links (store_alone width s) x ≡ [] → ParentsIn width s x b 0
none_in e = record { count = ap length e; each = λ i h. absurd (omega arith) }

module _ {width : ℕ} (small : width ≤ id_room) {s : List ℕ} {x : Id} {b : List ℕ} (v : GivesBody width s x b) (ok : store_is_ok width s ≡ true) where
  pub parents_in : (r : Reading) → reading_of (header width b) ≡ r → ParentsIn width s x b (parents_read r)
  parents_in (Ok r) e =
      let h = stored-good v ok [] r.parents r.stamp e in
      let l : links (store_alone width s) x ≡ (header width b).ids = stored-links v ok [] r.parents r.stamp e in
      record {
        count = ap length l ∙ sym h.count;
        each = λ i p. parent-right width small b i h.tree (omega (arith, h.count)) ∙ sym (ap (λ (q : List Id). get_or q i []) l);
      }
  parents_in (Err r) e = none_in (no-links (store_alone width s) x (stored-err v ok [] r e))
