-- Each place is further on, or nothing more is read from it: the reading's theorem.
use mathlib.Core.Path.{sym, ◌∙◌, subst}
use Prim.Native.Nat.{◌<◌}
use Rattle.hash.specs.Bytes.{width_of}
use Rattle.commititer.specs.declared.Place.{Place}
use Rattle.commititer.proofs.Forward.{left, moves-on}
use Rattle.tokens.proofs.tokens.Goals as goal

pub loop-token-smaller : goal.loop-token-smaller
loop-token-smaller g c =
    let b = c.args.body.now in
    let p = c.loop-token.place in
    subst (λ (r : Place). left b r < left b p) (sym c.place_after-place.ensures) (moves-on (width_of c.args.kind) b p (sym c.is_done.ensures ∙ c.loop-token-test.true))
