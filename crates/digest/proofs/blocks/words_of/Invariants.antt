-- `digest::blocks::words_of` meets its contract: after t turns the first t words are those of the block. Assumes nothing.
use borrow.Author.Rules.{rules}
use mathlib.Core.Path.{◌≡◌, refl, sym, ◌∙◌, ap}
use native.Mathlib.Omega.{arith}
use Prim.Native.Nat.{ℕ, ◌+◌, ◌-◌, ◌≤◌, ◌<◌}
use lib.ListN.{length, take, length-set}
use Rattle.digest.specs.Blocks.{made, block_word, words_of}
use Rattle.digest.proofs.Lists.{made_again, made_all}
use Rattle.digest.proofs.blocks.words_of.Given as goal

abbrev pub invariant-loop-t : goal.invariant-loop-t
invariant-loop-t l = (l.t ≤ 16) × (length l.w ≡ 16) × (take l.t l.w ≡ made (block_word l.s) l.t)

abbrev pub decreases-loop-t : goal.decreases-loop-t
decreases-loop-t l = 16 - l.t
