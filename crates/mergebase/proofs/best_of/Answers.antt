-- `best_of` meets its contract: the stains begin with none, and the choice is made after them. Assumes nothing.
use mathlib.Core.Path.{sym, ap}
use Rattle.std.proofs.lemmas.Result.{err_from_is_err_and}
use Rattle.mergebase.specs.Memory.{parted_of}
use Rattle.mergebase.proofs.Partings.{best_chosen}
use Rattle.mergebase.proofs.best_of.Goals as goal

pub returns : goal.returns
returns c = best_chosen c.args.levels.now c.clear.ensures c.stain_all.ensures c.choose.ensures (sym (ap parted_of c.in_ok-choose.was))

pub returns-in_err-choose : goal.returns-in_err-choose
returns-in_err-choose c =
    let p = err_from_is_err_and c.from_residual.result c.from_residual.ensures.1 in
    rw (p.1, p.2) (best_chosen c.args.levels.now c.clear.ensures c.stain_all.ensures c.choose.ensures (sym (ap parted_of c.in_err-choose.was)))
