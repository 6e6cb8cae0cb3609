-- `levels::put` meets its contract: a value that fits is stored at its place, and nothing else changes. Assumes nothing.
use Rattle.levels.proofs.Turning.{puts_in, puts-out, puts_big}
use Rattle.levels.proofs.put.Goals as goal

pub returns-then-v-lt4294967296 : goal.returns-then-v-lt4294967296
returns-then-v-lt4294967296 c = puts_in c.args.s.now c.args.k c.args.v c.if-k-s.true

pub returns-else-v-lt4294967296 : goal.returns-else-v-lt4294967296
returns-else-v-lt4294967296 c = puts_big c.args.s.now c.args.k c.args.v c.if-v-lt4294967296.false

pub returns-else-k-s : goal.returns-else-k-s
returns-else-k-s c = puts-out c.args.s.now c.args.k c.args.v c.if-k-s.false
