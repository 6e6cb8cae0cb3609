-- Rising ids passed one by one: an id that is not above the one before it breaks the list, and where none does, the list rises; and that the
-- ids stand in the file, as a record and as a test. Assumes nothing.
use mathlib.Core.Path.{◌≡◌, refl, sym}
use Prim.Native.Nat.{ℕ, zero, suc, ◌+◌, ◌-◌, ◌*◌, ◌≤◌, ◌<◌}
use mathlib.Core.Bool.{Bool, true, false, ◌&&◌}
use native.Mathlib.Omega.{arith}
use lib.ListN.{length}
use lib.Dec.{ltb, leb}
use borrow.Author.Tests.{lt-ltb, le-leb, ltb-true, leb-true}
use Rattle.hash.specs.Bytes.{lt_id, at}
use Rattle.hash.proofs.Tests.{by_cases, and_both, and_of, not_yes}
use Rattle.idlist.specs.IdList.{IdList, id_of, rises_at, rising, Stands, stands_in}
use Rattle.idlist.proofs.Rising.{rising-first, not-rising}

and_not : (t : Bool) {b : Bool} → b ≡ false → (t && b) ≡ false
and_not true e = e
and_not false e = refl

module _ (l : IdList) where
  pub stands-in : (n : ℕ) → Stands l n → stands_in l n ≡ true
  unfolding stands_in
  stands-in n s = and_of (and_of (lt-ltb 0 l.stride s.moves) (le-leb l.width l.stride s.apart)) (le-leb (l.base + l.stride * n) (length l.bytes) s.inside)

  pub torn-in : (n : ℕ) → (Stands l n → ⊥) → stands_in l n ≡ false
  unfolding stands_in
  torn-in n f =
      not_yes
      (λ e.
      let t = and_both {a = ltb 0 l.stride && leb l.width l.stride} e in
      let u = and_both {a = ltb 0 l.stride} t.0 in
      f (record { moves = ltb-true 0 l.stride u.0; apart = leb-true l.width l.stride u.1; inside = leb-true (l.base + l.stride * n) (length l.bytes) t.1 }))

  pub torn-rising : (n : ℕ) → (Stands l n → ⊥) → false ≡ (stands_in l n && rising l n)
  torn-rising n f = rw (torn-in n f)

  -- where ids stand in the file, the second test decides
  pub stand-rising : (n : ℕ) → Stands l n → (stands_in l n && rising l n) ≡ rising l n
  stand-rising n s = rw (stands-in n s)

  -- the bytes that are compared for id k
  pub rises-at : (k : ℕ) → 0 < k → lt_id (at l.bytes (l.base + l.stride * (k - 1)) l.width) (at l.bytes (l.base + l.stride * k) l.width) ≡ rises_at l k
  unfolding rises_at id_of
  rises-at zero h = absurd (omega arith)
  rises-at (suc k) h = let e : suc k - 1 ≡ k = omega arith in rw e

  pub broken : (k n : ℕ) → k < n → rises_at l k ≡ false → false ≡ (stands_in l n && rising l n)
  unfolding rising
  broken k n h e =
      let f : rising l (suc k) ≡ false = by_cases (rising l k) (λ p. rw (p, e)) (λ p. rw p) in
      sym (and_not (stands_in l n) (not-rising l (suc k) n h f))

  pub passed : (k n : ℕ) → Stands l n → n ≤ k → rising l k ≡ true → true ≡ (stands_in l n && rising l n)
  passed k n s h p = sym (and_of (stands-in n s) (rising-first l n k h p))
