-- `object::id_line` meets its contract: the digits of a line that is there give its id. Assumes nothing.
-- the line is there
use mathlib.Core.Path.{◌≡◌, sym, ◌∙◌, ap}
use mathlib.Core.Bool.{true}
use native.Mathlib.Omega.{arith}
use lib.ListN.{drop}
use Rattle.object.specs.Header.{is_some, id_line}
use Rattle.object.specs.Read.{id_read}
use Rattle.object.proofs.Lines.{is_none, line-fits, line-digits, digits-there}
use Rattle.hash.specs.Bytes.{width_of}
use borrow.Author.Rules.{rules}
use Rattle.object.proofs.id_line.Goals as goal

pub overflow_add-at : goal.overflow_add-at
overflow_add-at c =
    let there : is_some (id_line (width_of c.args.kind) c.args.word.now (drop c.args.at c.args.body.now)) ≡ true = sym c.is_id_line.ensures ∙ c.if-is_id_line.true in
    let x = c.args in omega (arith, line-fits (width_of x.kind) x.word.now x.body.now x.at there)

pub decoded-requires : goal.decoded-requires
decoded-requires c =
    let there : is_some (id_line (width_of c.args.kind) c.args.word.now (drop c.args.at c.args.body.now)) ≡ true = sym c.is_id_line.ensures ∙ c.if-is_id_line.true in
    let x = c.args in record { kind_in_bounds = omega (arith, line-fits (width_of x.kind) x.word.now x.body.now x.at there); body_value = digits-there (width_of x.kind) x.word.now x.body.now x.at there }

pub returns-then-is_id_line : goal.returns-then-is_id_line
returns-then-is_id_line c =
    let there : is_some (id_line (width_of c.args.kind) c.args.word.now (drop c.args.at c.args.body.now)) ≡ true = sym c.is_id_line.ensures ∙ c.if-is_id_line.true in
    let x = c.args in c.decoded.ensures ∙ sym (line-digits (width_of x.kind) x.word.now x.body.now x.at there)

pub returns-else-is_id_line : goal.returns-else-is_id_line
returns-else-is_id_line c = let x = c.args in ap id_read (sym (is_none (id_line (width_of x.kind) x.word.now (drop x.at x.body.now)) (sym c.is_id_line.ensures ∙ c.if-is_id_line.false)))
