-- `sha1::schedule` meets its contract: after t turns the first t words are those of the schedule. Assumes nothing.
use Rattle.std.proofs.Common.{◌≡◌, ℕ, ◌+◌, ◌-◌, ◌<◌, ◌≤◌, List, length, get_or, take, sym, refl, ap, ◌∙◌, arith, length-set, rules}
use Rattle.digest.specs.Blocks.{made}
use Rattle.digest.proofs.Lists.{made_again, made_all}
use Rattle.sha1_hash.specs.Sha1.{word1}
use Rattle.sha1_hash.proofs.Rounds.{new-word1}
use Rattle.sha1_hash.proofs.schedule.Given as goal

abbrev pub invariant-loop-t : goal.invariant-loop-t
invariant-loop-t l = (16 ≤ l.t) × (l.t ≤ 80) × (length l.w ≡ 80) × ((m : List ℕ) → take 16 l.initial.w ≡ made (word1 m) 16 → take l.t l.w ≡ made (word1 m) l.t)

abbrev pub decreases-loop-t : goal.decreases-loop-t
decreases-loop-t l = 80 - l.t
