-- The place after the tree line and k parent lines: a sum where it is a number of 64 bits, as it is for 256 lines and for every line that a
-- body has. Assumes nothing.
use mathlib.Core.Path.{◌≡◌, refl, sym, ap, ◌∙◌}
use Prim.Native.Nat.{ℕ, ◌+◌, ◌-◌, ◌*◌, ◌/◌, ◌≤◌, ◌<◌, min}
use native.Mathlib.Omega.{arith}
use native.Mathlib.Nat.{div-lt_iff_lt-mul}
use lib.Dec.{ltb}
use borrow.Author.Tests.{ltb-true, ltb-false}
use Rattle.hash.proofs.Tests.{by_cases}
use Rattle.hash.specs.Bytes.{pick}
use Rattle.hash.proofs.Widths.{times-most, ids-fit}
use Rattle.object.specs.Ids.{id_room}
use Rattle.object.specs.Header.{tree_size, parent_size, most}
use Rattle.commititer.specs.Token.{here, last, parents_place}
use Rattle.commititer.specs.declared.State.TheVariants.{Parents as ParentLines}

-- a place, cut off at the last number of 64 bits
held : (i : ℕ) → min i last ≡ pick (ltb last i) last i
held i =
    by_cases (ltb last i)
    (λ h. let l : last < i = ltb-true last i h in rw h (omega arith))
    (λ h. let l : i ≤ last = ltb-false last i h in rw h (omega arith))

-- line k, of lines of this size from a place on: by how many lines there is room for
module _ (first size k : ℕ) (some : 0 < size) where
  pub line-far : (last - first) / size < k → last < first + size * k
  line-far h = let n : last - first < k * size = (div-lt_iff_lt-mul some).0 h in omega arith

  pub line-near : k ≤ (last - first) / size → size * k ≤ last - first
  line-near = ids-fit size (last - first) k some

module _ (w k : ℕ) where
  pub place-held : {first size i : ℕ} → first ≡ tree_size w → size ≡ parent_size w → i ≡ min (first + size * k) last → here i ParentLines ≡ parents_place w k
  unfolding parents_place
  place-held f s e = ap (λ (j : ℕ). here j ParentLines) ((rw (f, s) at e) ∙ held (tree_size w + parent_size w * k))

  -- as many lines as a readable commit has parents, and one more
  pub place-few : w ≤ id_room → k ≤ most → parents_place w k ≡ here (tree_size w + parent_size w * k) ParentLines
  place-few small few = sym (place-held refl refl (omega (arith, times-most (parent_size w) 72 k 256 (omega arith) few)))
