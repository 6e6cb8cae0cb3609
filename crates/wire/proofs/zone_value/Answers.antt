-- `wire::zone_value` meets its contract: the minutes come through their 64 bits unchanged. Assumes nothing.
use mathlib.Core.Path.{◌≡◌, sym, ap, ◌∙◌}
use mir.Syntax.{w64}
use mir.Facts.{to_z-of_z}
use Rattle.walk.specs.Given.{zone_value}
use borrow.Author.Rules.{rules}
use Rattle.wire.proofs.zone_value.Goals as goal

pub returns-in-Some : goal.returns-in-Some
returns-in-Some c = to_z-of_z {w = w64} {z = c.in-Some.m} (record { sfits = c.in-Some.known_told-1-own.given.0.1 }) ∙ sym (ap zone_value c.in-Some.is)

pub returns-in-None : goal.returns-in-None
returns-in-None c = sym (ap zone_value c.in-None.is)
