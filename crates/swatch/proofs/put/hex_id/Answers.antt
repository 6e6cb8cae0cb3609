-- `put::hex_id` meets its contract: after i turns the digits of the first i bytes are put down. Assumes nothing.
use borrow.Author.Rules.{rules}
use mathlib.Core.Path.{◌≡◌, sym, ◌∙◌, ap}
use mathlib.Core.List.{[], ◌∷◌, ◌++◌}
use Prim.Native.Nat.{ℕ, ◌+◌}
use native.Mathlib.Numerals.{add-one}
use lib.ListN.{take, get_or}
use lib.Seq.{take-suc, take_all}
use Rattle.swatch.specs.Text.{hex}
use Rattle.swatch.proofs.Puts.{puts-nothing, puts_then, puts_as}
use Rattle.swatch.proofs.Words.{hex_append}
use Rattle.swatch.proofs.put.hex_id.Goals as goal

pub loop-i-init : goal.loop-i-init
unfolding hex
loop-i-init c = (search rules, puts-nothing c.args.out.now c.args.at)

pub loop-i-preserved : goal.loop-i-preserved
loop-i-preserved c =
    let x = c.args.id.now in
    let i = c.loop-i.i in
    let e : hex (take i x) ++ hex (get_or x i 0 ∷ []) ≡ hex (take (i + 1) x) = sym (hex_append (take i x) (get_or x i 0 ∷ [])) ∙ ap hex (sym (take-suc x i 0 (search rules)) ∙ ap (λ (k : ℕ). take k x) (sym (add-one i))) in
    (search rules, puts_as (puts_then c.loop-i.invariant.1 c.hex_byte-next.ensures) e)

pub returns : goal.returns
returns c =
    let x = c.args.id.now in
    puts_as c.loop-i.invariant.1 (ap hex (take_all c.loop-i.i x (search rules)))
