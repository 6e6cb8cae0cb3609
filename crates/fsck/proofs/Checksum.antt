-- The checksum: the bytes before the last id's width are the rest, and the bytes from there on are the checksum. Assumes nothing.
use mathlib.Core.Path.{◌≡◌, ◌∙◌}
use Prim.Native.Nat.{ℕ, ◌-◌}
use mathlib.Core.List.{List}
use lib.ListN.{length, take, drop}
use Rattle.hash.specs.Bytes.{eq_id, at, width_of}
use Rattle.hash.specs.declared.Kind.{Kind}
use Rattle.commitid.specs.Name.{digest_of}
use Rattle.fsck.specs.Names.{true_sum}

pub sum_told : (kind : Kind) (g p q : List ℕ) (n : ℕ) → n ≡ length g - width_of kind → p ≡ at g 0 n → q ≡ drop n g → eq_id (digest_of kind p) q ≡ true_sum kind g
unfolding true_sum at
sum_told kind g p q n e f h = (λ i. eq_id (digest_of kind (f i)) (h i)) ∙ (λ i. eq_id (digest_of kind (take (e i) g)) (drop (e i) g))
