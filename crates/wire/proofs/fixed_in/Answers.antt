-- `wire::fixed_in` meets its contract, field by field. Assumes nothing.
use mathlib.Core.Path.{◌∙◌, ap}
use Rattle.wire.specs.Words.{kind_of, fixed_in}
use borrow.Author.Rules.{rules}
use Rattle.wire.proofs.fixed_in.Goals as goal

pub returns : goal.returns
unfolding fixed_in
returns c = λ k. record {
  layout = record {
    fan = c.count.ensures k;
    ids = c.count-2.ensures k;
    rows = c.count-3.ensures k;
    edge = c.count-4.ensures k;
    edges = c.count-5.ensures k;
    count = c.count-6.ensures k;
    levels = c.flag.ensures k;
  };
  kind = (c.kind_of.ensures ∙ ap kind_of c.low.ensures) k;
}
