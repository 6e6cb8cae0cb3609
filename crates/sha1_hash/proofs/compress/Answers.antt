-- `sha1::compress` meets its contract: the rounds in their order, and the sum with the state before them. Assumes nothing.
use Rattle.std.proofs.Common.{◌≡◌, sym, refl, ap, ◌∙◌, arith, rules}
use Rattle.sha1_hash.specs.Sha1.{sum1}
use Rattle.sha1_hash.proofs.Rounds.{compressed1}
use Rattle.sha1_hash.proofs.compress.Goals as goal

pub returns : goal.returns
returns c = let x = c.args in
    let w = c.schedule-w in
    let v = c.last_rounds-v in
    let q = v.ensures x.h (c.majority_rounds-third.ensures x.h (c.parity_rounds-second.ensures x.h c.choice_rounds-first.ensures)) in
    ◌∙◌ {b = sum1 x.h v.result} (λ p. record { a = c.wrapping_add_u32.ensures.value p; b = c.wrapping_add_u32-2.ensures.value p; c = c.wrapping_add_u32-3.ensures.value p; d = c.wrapping_add_u32-4.ensures.value p; e = c.wrapping_add_u32-5.ensures.value p })
    (compressed1 x.h v.result x.block w.result 80 w.ensures refl q)
