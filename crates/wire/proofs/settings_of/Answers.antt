-- `wire::settings_of` meets its contract; the cutoff comes through its 64 bits unchanged. Assumes nothing.
use mathlib.Core.Path.{◌≡◌, ◌∙◌, ap}
use mir.Syntax.{w64}
use mir.Val.{to_z, of_z}
use mir.Facts.{to_z-of_z}
use Rattle.wire.specs.Numbers.{sorting_of, settings_of}
use borrow.Author.Rules.{rules}
use Rattle.wire.proofs.settings_of.Goals as goal

pub returns : goal.returns
unfolding settings_of
returns c =
    let x = c.args in
    let told : to_z w64 (of_z w64 x.cutoff) ≡ x.cutoff = to_z-of_z c.ranges.cutoff in
    let e = c.sorting_of.ensures ∙ ap (sorting_of x.sorting x.limited) told in
    λ k. record { sorting = e k; parents = c.parents_of.ensures k; kind = c.kind_of.ensures k }
