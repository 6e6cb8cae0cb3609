-- The parents that a commit store names: a parent line has 48 bytes (72 where an id has 32) and bodies lie end to end, so they are at most one for as many bytes.
-- Assumes nothing.
use Rattle.std.specs.Prelude.{Some}
use mathlib.Core.Path.{◌≡◌, sym, ap, subst}
use mathlib.Core.Logic.{⊎_elim}
use Prim.Native.Nat.{ℕ, zero, suc, ◌*◌, ◌/◌, ◌≤◌, ◌<◌}
use mathlib.Core.Bool.{true}
use mathlib.Core.List.Memᴰ
use mathlib.Core.List.{List}
use native.Mathlib.Omega.{arith}
use native.Mathlib.Nat.{eq-or-lt_of_le, mul-zero}
use lib.ListN.{length, length-append}
use Rattle.hash.specs.Bytes.{Id}
use Rattle.hash.proofs.Widths.{fit-ids}
use Rattle.object.specs.Header.{header, parent_size}
use Rattle.odb.specs.Store.{entries, body, store_is_ok, store_find}
use Rattle.odb.proofs.Bodies.{sum_bodies, sum-within, start-within}
use Rattle.odb.proofs.Entries.{entry-hit, found-body}
use Rattle.walk.specs.Universe.{parents_up_to, store_parents}
use Rattle.walk.specs.Reach.{Mem}
use Rattle.object.proofs.Headers.{header_length}

abbrev text_of : ℕ → List ℕ → ℕ
text_of width x = parent_size width * length (header width x).ids

up_to_length : (width : ℕ) (b : List ℕ) (k : ℕ) → parent_size width * length (parents_up_to width b k) ≡ sum_bodies width (text_of width) b k
unfolding parents_up_to sum_bodies
up_to_length width b zero = mul-zero (parent_size width)
up_to_length width b (suc k) =
    omega (arith, up_to_length width b k, ap (λ (n : ℕ). parent_size width * n) (length-append (parents_up_to width b k) (header width (body width b k)).ids))

pub store_parents_length : (width : ℕ) (b : List ℕ) → store_is_ok width b ≡ true → length (store_parents width b) ≤ length b / parent_size width
unfolding store_parents
store_parents_length width b ok =
    fit-ids (parent_size width) (length b) (length (parents_up_to width b (entries b))) (omega arith)
    (omega (arith, up_to_length width b (entries b), sum-within width (text_of width) (header_length width) b ok, start-within width b ok))

up_to_in : (width : ℕ) (b : List ℕ) (n k : ℕ) (p : Id) → k < n → Mem p (header width (body width b k)).ids → Mem p (parents_up_to width b n)
unfolding parents_up_to
up_to_in width b zero k p h m = absurd (omega arith)
up_to_in width b (suc n) k p h m =
    ⊎_elim
    (λ e. Memᴰ.append_right (parents_up_to width b n) (subst (λ (j : ℕ). Mem p (header width (body width b j)).ids) e m))
    (λ l. Memᴰ.append_left (header width (body width b n)).ids (up_to_in width b n k p l m))
    (eq-or-lt_of_le le)
  where
    le : k ≤ n
    le = omega arith

pub find_parents : (width : ℕ) (b : List ℕ) (x : Id) (c : List ℕ) → store_find width b x ≡ Some c → (p : Id) → Mem p (header width c).ids → Mem p (store_parents width b)
unfolding store_parents
find_parents width b x c e p m =
    let f = found-body width b x c e in
    up_to_in width b (entries b) f.0 p (entry-hit width b x f.0 f.1).0 (subst (λ (d : List ℕ). Mem p (header width d).ids) (sym f.2) m)
