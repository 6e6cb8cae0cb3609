-- The entry under an id. In a good store the ids rise strictly, so an id has one entry at most, and the search for it gives that entry and no
-- other. Assumes nothing.
use Rattle.std.specs.Prelude.{None, Some}
use mathlib.Core.Path.{◌≡◌, ap}
use Prim.Native.Nat.{ℕ, ◌≤◌, ◌<◌}
use mathlib.Core.Bool.{true}
use mathlib.Core.List.{List}
use native.Mathlib.Omega.{arith}
use lib.ListN.{length}
use Rattle.hash.specs.Bytes.{Id}
use Rattle.hash.proofs.Tests.{some_of, some_in}
use Rattle.idlist.specs.IdList.{id_of}
use Rattle.idlist.proofs.Rising.{once}
use Rattle.idlist.proofs.Answer.{find-hit, find_none, none_found, find_at}
use Rattle.odb.specs.Store.{entries, entry_ids, body, store_is_ok, find_entry, store_find}
use Rattle.odb.proofs.Store.{good}
use Rattle.odb.proofs.Bodies.{body-length, end-within}

-- what is found stands there
pub entry-hit : (w : ℕ) (b : List ℕ) (x : Id) (k : ℕ) → find_entry w b x ≡ Some k → (k < entries b) × (id_of (entry_ids w b) k ≡ x)
unfolding find_entry
entry-hit w b x k e = find-hit (entry_ids w b) x (entries b) k e

-- where nothing is found, the id stands nowhere; and the other way round
pub entry-none : (w : ℕ) (b : List ℕ) (x : Id) (k : ℕ) → find_entry w b x ≡ None → k < entries b → id_of (entry_ids w b) k ≡ x → ⊥
unfolding find_entry
entry-none w b x k e = find_none (entry_ids w b) x (entries b) k e

pub none-entry : (w : ℕ) (b : List ℕ) (x : Id) → ((k : ℕ) → k < entries b → id_of (entry_ids w b) k ≡ x → ⊥) → find_entry w b x ≡ None
unfolding find_entry
none-entry w b x f = none_found (entry_ids w b) x (entries b) f

-- a body that is found is the body of the entry that is found
pub found-body : (w : ℕ) (b : List ℕ) (x : Id) (c : List ℕ) → store_find w b x ≡ Some c → (k : ℕ) × (find_entry w b x ≡ Some k) × (body w b k ≡ c)
unfolding store_find
found-body w b x c e = let t = some_of (find_entry w b x) (λ k. Some (body w b k)) c e in (t.0, t.1, some_in t.2)

module _ (w : ℕ) (b : List ℕ) (ok : store_is_ok w b ≡ true) where
  -- what stands there is found
  pub entry_at : (x : Id) (k : ℕ) → k < entries b → id_of (entry_ids w b) k ≡ x → find_entry w b x ≡ Some k
  unfolding find_entry
  entry_at x k h e = find_at (entry_ids w b) x (entries b) k (good w b ok).rises h e

  -- two entries with the same id are the same
  pub entry-once : (j k : ℕ) → j < entries b → k < entries b → id_of (entry_ids w b) j ≡ id_of (entry_ids w b) k → j ≡ k
  entry-once j k hj hk e = once (entry_ids w b) (entries b) j k (good w b ok).rises hj hk e

  -- a found body is no longer than the file
  pub found-length : (x : Id) (c : List ℕ) → store_find w b x ≡ Some c → length c ≤ length b
  found-length x c e =
      let t = found-body w b x c e in
      let h = (entry-hit w b x t.0 t.1).0 in
      omega (arith, ap length t.2, body-length w b ok t.0 h, end-within w b ok t.0 h)
