-- `idlist::is_lower` meets its contract: the lower head tells, and where the heads are the same, the comparison of all bytes. Assumes nothing.
use Rattle.std.proofs.Common.{sym, ◌∙◌, arith}
use Rattle.hash.proofs.Ids.{is_lt_compare}
use Rattle.idlist.proofs.Heads.{heads-less, heads-greater}
use Rattle.idlist.proofs.is_lower.Goals as goal

pub returns-then-x-y : goal.returns-then-x-y
returns-then-x-y c = let x = c.args in
    sym (heads-less x.bytes.now x.i x.j x.n (λ k. omega (arith, c.type_inv.bytes k)) c.requires.0 c.requires.1 c.requires.2 c.requires.3 c.if-x-y.true)

pub returns-then-y-x : goal.returns-then-y-x
returns-then-y-x c = let x = c.args in
    sym (heads-greater x.bytes.now x.i x.j x.n (λ k. omega (arith, c.type_inv.bytes k)) c.requires.0 c.requires.1 c.requires.2 c.requires.3 c.if-y-x.true)

pub returns : goal.returns
returns c = rw (c.is_lt.ensures, c.compare.ensures, c.part.ensures, c.part-2.ensures) (is_lt_compare _ _)
