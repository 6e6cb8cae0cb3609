-- `object::put_parent` meets its contract: the digits of a line that is there give its id. Assumes nothing.
use mathlib.Core.Path.{sym, ap, ◌∙◌}
use native.Mathlib.Omega.{arith}
use lib.ListN.{drop}
use Rattle.hash.specs.Bytes.{width_of}
use Rattle.object.specs.Header.{id_line, parent_word}
use Rattle.object.specs.Read.{id_down}
use Rattle.object.proofs.Lines.{turned-yes, turned-no, is_none, line-fits, line-down, digits-there}
use borrow.Author.Rules.{rules}
use mathlib.Core.Bool.{not}
use Rattle.object.proofs.put_parent.Goals as goal

pub returns-then-not-is_id_line : goal.returns-then-not-is_id_line
returns-then-not-is_id_line c = let e = turned-yes c.is_id_line.ensures (ap not c.if-not-is_id_line.true) in (sym e, sym (ap (λ o. id_down (width_of c.args.kind) c.args.k o c.args.out.now) (is_none (id_line (width_of c.args.kind) parent_word (drop c.args.at c.args.body.now)) e)))

pub overflow_add-at : goal.overflow_add-at
overflow_add-at c = omega (arith, line-fits (width_of c.args.kind) parent_word c.args.body.now c.args.at (turned-no c.is_id_line.ensures (ap not c.if-not-is_id_line.false)))

pub put_decoded-requires : goal.put_decoded-requires
put_decoded-requires c = record {
  kind_in_bounds = omega (arith, line-fits (width_of c.args.kind) parent_word c.args.body.now c.args.at (turned-no c.is_id_line.ensures (ap not c.if-not-is_id_line.false)));
  body_value = digits-there (width_of c.args.kind) parent_word c.args.body.now c.args.at (turned-no c.is_id_line.ensures (ap not c.if-not-is_id_line.false));
}

pub returns : goal.returns
returns c = let e = turned-no c.is_id_line.ensures (ap not c.if-not-is_id_line.false) in (sym e, c.put_decoded.ensures ∙ line-down (width_of c.args.kind) parent_word c.args.body.now c.args.at e c.args.k c.args.out.now)
