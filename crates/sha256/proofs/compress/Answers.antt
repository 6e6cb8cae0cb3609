-- `sha256::compress` meets its contract: after j turns the state is that of 8 j rounds. Assumes nothing.
use Rattle.std.proofs.Common.{◌≡◌, ℕ, ◌+◌, ◌-◌, ◌*◌, ◌<◌, ◌≤◌, length, sym, refl, ap, ◌∙◌, arith, rules}
use Rattle.digest.specs.Blocks.{times}
use Rattle.sha256.specs.Sha256.{constants256, round256, sum256}
use Rattle.digest.proofs.Lists.{times-then}
use Rattle.sha256.proofs.Rounds.{compressed256}
use Rattle.sha256.proofs.compress.Goals as goal

pub loop-j-init : goal.loop-j-init
unfolding times
loop-j-init c = (search rules, refl)

pub loop-j-preserved : goal.loop-j-preserved
unfolding round256 constants256
loop-j-preserved c = let l = c.loop-j in
    let w = c.schedule-w.result in
    let h = c.args.h in
    let e1 : c.turned-v.result ≡ times (round256 w) (l.j * 8 + 1) h = times-then (round256 w) (l.j * 8) (l.j * 8 + 1) h l.v c.turned-v.result l.invariant.1 c.turned-v.ensures (omega arith) in
    let e2 : c.turned-v-in-loop-j.result ≡ times (round256 w) (l.j * 8 + 2) h = times-then (round256 w) (l.j * 8 + 1) (l.j * 8 + 2) h c.turned-v.result c.turned-v-in-loop-j.result (e1) c.turned-v-in-loop-j.ensures (omega arith) in
    let e3 : c.turned-v-in-loop-j-2.result ≡ times (round256 w) (l.j * 8 + 3) h = times-then (round256 w) (l.j * 8 + 2) (l.j * 8 + 3) h c.turned-v-in-loop-j.result c.turned-v-in-loop-j-2.result (e2) c.turned-v-in-loop-j-2.ensures (omega arith) in
    let e4 : c.turned-v-in-loop-j-3.result ≡ times (round256 w) (l.j * 8 + 4) h = times-then (round256 w) (l.j * 8 + 3) (l.j * 8 + 4) h c.turned-v-in-loop-j-2.result c.turned-v-in-loop-j-3.result (e3) c.turned-v-in-loop-j-3.ensures (omega arith) in
    let e5 : c.turned-v-in-loop-j-4.result ≡ times (round256 w) (l.j * 8 + 5) h = times-then (round256 w) (l.j * 8 + 4) (l.j * 8 + 5) h c.turned-v-in-loop-j-3.result c.turned-v-in-loop-j-4.result (e4) c.turned-v-in-loop-j-4.ensures (omega arith) in
    let e6 : c.turned-v-in-loop-j-5.result ≡ times (round256 w) (l.j * 8 + 6) h = times-then (round256 w) (l.j * 8 + 5) (l.j * 8 + 6) h c.turned-v-in-loop-j-4.result c.turned-v-in-loop-j-5.result (e5) c.turned-v-in-loop-j-5.ensures (omega arith) in
    let e7 : c.turned-v-in-loop-j-6.result ≡ times (round256 w) (l.j * 8 + 7) h = times-then (round256 w) (l.j * 8 + 6) (l.j * 8 + 7) h c.turned-v-in-loop-j-5.result c.turned-v-in-loop-j-6.result (e6) c.turned-v-in-loop-j-6.ensures (omega arith) in
    let e8 : c.turned-v-in-loop-j-7.result ≡ times (round256 w) ((l.j + 1) * 8) h = times-then (round256 w) (l.j * 8 + 7) ((l.j + 1) * 8) h c.turned-v-in-loop-j-6.result c.turned-v-in-loop-j-7.result (e7) c.turned-v-in-loop-j-7.ensures (omega arith) in
    (search rules, e8)

pub returns : goal.returns
returns c = let x = c.args in
    let l = c.loop-j in
    let e : l.j * 8 ≡ 64 = omega (arith, c.loop-j-test.false, l.invariant.0) in
    ◌∙◌ {b = sum256 x.h l.v} (λ p. record { a = c.wrapping_add_u32.ensures.value p; b = c.wrapping_add_u32-2.ensures.value p; c = c.wrapping_add_u32-3.ensures.value p; d = c.wrapping_add_u32-4.ensures.value p; e = c.wrapping_add_u32-5.ensures.value p; f = c.wrapping_add_u32-6.ensures.value p; g = c.wrapping_add_u32-7.ensures.value p; h = c.wrapping_add_u32-8.ensures.value p })
    (compressed256 x.h l.v x.block c.schedule-w.result (l.j * 8) c.schedule-w.ensures e l.invariant.1)
