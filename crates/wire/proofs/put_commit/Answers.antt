-- `wire::put_commit` meets its contract, buffer by buffer; the seconds and the zone come through their 64 bits unchanged. Assumes nothing.
use mathlib.Core.Path.{◌≡◌, refl, ◌∙◌, ap}
use mathlib.Core.List.{List, [], ◌∷◌}
use lib.IntN.{ℤ}
use lib.ListN.{set}
use mir.Syntax.{w64}
use mir.Val.{to_z, of_z}
use mir.Facts.{to_z-of_z}
use Rattle.hash.specs.Bytes.{set_down}
use Rattle.walk.specs.Given.{seconds_value}
use Rattle.wire.specs.Words.{answer_words}
use borrow.Author.Rules.{rules}
use Rattle.wire.proofs.put_commit.Goals as goal

pub returns : goal.returns
unfolding answer_words
returns c = let x = c.args in
    let z = c.seconds_value-s.result.0 in
    let told : to_z w64 (of_z w64 z) ≡ z = to_z-of_z {w = w64} {z = z} (record { sfits = c.struct_told-1.given.0.1 }) in
    let m = c.zone_value.result in
    let told2 : to_z w64 (of_z w64 m) ≡ m = to_z-of_z {w = w64} {z = m} (record { sfits = c.zone_value.type_inv }) in
    let first = c.put_seconds.ensures ∙ ap (set x.seconds.now 0) (told ∙ c.seconds_value-s.ensures) in
    let l = c in
    record {
      result = refl;
      id-is = c.put_id.ensures;
      numbers_are =
          c.put.ensures
          ∙ ap (set_down x.numbers.now 0) (λ k.
          l.long.ensures k
          ∷ l.long-2.ensures k
          ∷ l.long-3.ensures k
          ∷ l.long-4.ensures k
          ∷ c.has_level.ensures k
          ∷ c.level_value.ensures k
          ∷ c.has_seconds.ensures k
          ∷ c.has_zone.ensures k
          ∷ []);
      seconds_are =
          c.put_zone.ensures
          ∙ ap (λ (l : List ℤ). set l 1 (to_z w64 (of_z w64 m))) first
          ∙ ap (set (set x.seconds.now 0 (seconds_value x.t)) 1) (told2 ∙ c.zone_value.ensures);
    }
