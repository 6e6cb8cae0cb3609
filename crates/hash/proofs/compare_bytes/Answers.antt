-- `hash::compare_bytes` meets its contract: the library compares what is left. Assumes nothing.
use Rattle.std.proofs.Common.{◌≡◌, ◌∙◌, ℕ, ◌-◌, List, length, take, drop, arith, length-drop}
use lib.Seq.{take_all}
use Rattle.hash.proofs.Ids.{compare_bytes}
use Rattle.hash.proofs.compare_bytes.Goals as goal

rest : (b : List ℕ) (i : ℕ) → take (length b - i) (drop i b) ≡ drop i b
rest b i = take_all (length b - i) (drop i b) (simp length-drop (omega arith))

pub returns : goal.returns
returns c = let x = c.args in c.cmp.ensures ∙ rw (rest x.a.now x.from, rest x.b.now x.from) (compare_bytes (drop x.from x.a.now) (drop x.from x.b.now))
