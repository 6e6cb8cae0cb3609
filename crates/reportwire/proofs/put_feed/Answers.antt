-- `reportwire::put_feed` meets its contract, buffer by buffer. Assumes nothing.
use mathlib.Core.Path.{◌≡◌, ◌∙◌, ap}
use mathlib.Core.List.{List}
use Prim.Native.Nat.{ℕ}
use lib.IntN.{ℤ}
use lib.ListN.{set}
use mir.Syntax.{w64}
use mir.Facts.{to_z-of_z}
use Rattle.hash.specs.Bytes.{set_down}
use borrow.Author.Rules.{rules}
use Rattle.reportwire.proofs.put_feed.Goals as goal

pub returns : goal.returns
returns c = let x = c.args in
    record {
      result = c.number.ensures;
      numbers_are = c.put.ensures ∙ ap (set_down x.numbers.now 0) c.feed_words-w.ensures;
      difference_is = c.put_seconds.ensures ∙ ap (set x.difference.now 0) (to_z-of_z {w = w64} {z = x.r.difference} (record { sfits = c.struct_told-1.given.1.1.1.1.1.1.1.0.1 }));
    }
