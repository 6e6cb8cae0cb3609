-- `feed::judge` meets its contract: the tests come in the definition's order, given twice before unreadable. Assumes nothing.
use Rattle.std.specs.Prelude.{Ok}
use mathlib.Core.Path.{sym, ◌∙◌}
use Rattle.feed.proofs.Passing.{cone-twice, bed-twice, cone-unreadable, bed-unreadable, both_read}
use Rattle.feed.proofs.judge.Goals as goal

pub returns-then-is_twice : goal.returns-then-is_twice
returns-then-is_twice c = let x = c.args in cone-twice x.cone x.bed (sym c.is_twice.ensures ∙ c.if-is_twice.true)

pub returns-then-is_twice-2 : goal.returns-then-is_twice-2
returns-then-is_twice-2 c = let x = c.args in bed-twice x.cone x.bed (sym c.is_twice-2.ensures ∙ c.if-is_twice-2.true)

pub returns-then-is_unreadable : goal.returns-then-is_unreadable
returns-then-is_unreadable c = let x = c.args in
    cone-unreadable x.cone x.bed (sym c.is_twice.ensures ∙ c.if-is_twice.false) (sym c.is_twice-2.ensures ∙ c.if-is_twice-2.false)
    (sym c.is_unreadable.ensures ∙ c.if-is_unreadable.true)

pub returns-then-is_unreadable-2 : goal.returns-then-is_unreadable-2
returns-then-is_unreadable-2 c = let x = c.args in
    bed-unreadable x.cone x.bed (sym c.is_twice.ensures ∙ c.if-is_twice.false) (sym c.is_twice-2.ensures ∙ c.if-is_twice-2.false)
    (sym c.is_unreadable.ensures ∙ c.if-is_unreadable.false) (sym c.is_unreadable-2.ensures ∙ c.if-is_unreadable-2.true)

pub returns : goal.returns
returns c = let x = c.args in
    (λ j. Ok (record { cone = c.reading_in.ensures j; bed = c.reading_in-2.ensures j }))
    ∙ both_read x.cone x.bed (sym c.is_twice.ensures ∙ c.if-is_twice.false) (sym c.is_twice-2.ensures ∙ c.if-is_twice-2.false)
    (sym c.is_unreadable.ensures ∙ c.if-is_unreadable.false) (sym c.is_unreadable-2.ensures ∙ c.if-is_unreadable-2.false)
