-- The mark of a search: one bit of two, and the other is left alone. Assumes nothing.
use mathlib.Core.Path.{◌≡◌, ◌∙◌, ap}
use Prim.Native.Nat.{ℕ}
use mathlib.Core.Bool.{Bool, true, false, not}
use Rattle.hash.proofs.Tests.{clash}
use Rattle.hashtable.specs.Marks.{live}
use Rattle.hashtable.proofs.MarksBits.{visible-with_visible, hidden-with_visible, hidden-with_hidden, visible-with_hidden, visible-live, hidden-live, visible_0, hidden_0}
use Rattle.reach.specs.Memory.{has_bit, with_bit}

pub bit_with : (s : Bool) (m : ℕ) → has_bit s (with_bit s m) ≡ true
unfolding has_bit with_bit
bit_with true m = hidden-with_hidden m
bit_with false m = visible-with_visible m

pub other_with : (s : Bool) (m : ℕ) → has_bit (not s) (with_bit s m) ≡ has_bit (not s) m
unfolding has_bit with_bit
other_with true m = visible-with_hidden m
other_with false m = hidden-with_visible m

pub bit_live : (s : Bool) (m : ℕ) → has_bit s m ≡ true → live false m ≡ true
unfolding has_bit
bit_live true m e = hidden-live m e
bit_live false m e = visible-live m e

pub with_live : (s : Bool) (m : ℕ) → live false (with_bit s m) ≡ true
with_live s m = bit_live s (with_bit s m) (bit_with s m)

pub bit_0 : (s : Bool) → has_bit s 0 ≡ false
unfolding has_bit
bit_0 true = hidden_0
bit_0 false = visible_0

pub bit_not_0 : (s : Bool) (m : ℕ) → has_bit s m ≡ true → m ≡ 0 → ⊥
bit_not_0 s m e z = clash e (ap (has_bit s) z ∙ bit_0 s)
