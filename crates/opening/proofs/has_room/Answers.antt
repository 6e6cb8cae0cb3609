-- `opening::has_room` meets its contract: the first buffer below its size makes the whole false; a product is at most a length exactly where its factor is at most the quotient. Assumes nothing.
use mathlib.Core.Path.{sym, ◌∙◌, ap}
use Prim.Native.Nat.{ℕ, ◌*◌, ◌≤◌, ◌<◌}
use native.Mathlib.Omega.{arith}
use lib.Dec.{leb}
use borrow.Author.Tests.{le-leb, lt-leb}
use Rattle.hash.specs.declared.Kind.{Kind}
use Rattle.hash.specs.Bytes.{width_of}
use Rattle.hash.proofs.Widths.{width_least}
use Rattle.walk.specs.Opening.{P, room_for}
use Rattle.opening.proofs.Input.{names-fit, names-short}
use borrow.Author.Rules.{rules}
use Rattle.opening.proofs.has_room.Reads as reads
use Rattle.hash.proofs.ids_in.Reads as ids-in-reads
use Rattle.hash.proofs.width.Reads as width-reads
use Rattle.opening.proofs.has_room.Goals as goal

pub returns-then-ids_in-cap : goal.returns-then-ids_in-cap
unfolding room_for
returns-then-ids_in-cap c = λ i k e.
    let x = c.args in
    let h0 = ap (λ (q : Kind). leb (width_of q * P i) x.names) k ∙ names-short (width_of x.kind) x.names (P i) (omega (arith, width_least x.kind)) (omega (arith, c.ids_in.ensures)) in
    rw (h0)

pub returns-then-marks-cap : goal.returns-then-marks-cap
unfolding room_for
returns-then-marks-cap c = λ i k e.
    let x = c.args in
    let h0 = ap (λ (q : Kind). leb (width_of q * P i) x.names) k ∙ names-fit (width_of x.kind) x.names (P i) (omega (arith, width_least x.kind)) (omega (arith, c.ids_in.ensures)) in
    let h1 : x.marks < P i = omega arith in
    rw (h0, lt-leb _ _ h1)

pub returns-then-levels-cap : goal.returns-then-levels-cap
unfolding room_for
returns-then-levels-cap c = λ i k e.
    let x = c.args in
    let h0 = ap (λ (q : Kind). leb (width_of q * P i) x.names) k ∙ names-fit (width_of x.kind) x.names (P i) (omega (arith, width_least x.kind)) (omega (arith, c.ids_in.ensures)) in
    let h1 : P i ≤ x.marks = omega arith in
    let h2 : x.levels < P i = omega arith in
    rw (h0, le-leb _ _ h1, lt-leb _ _ h2)

pub returns-then-times-cap : goal.returns-then-times-cap
unfolding room_for
returns-then-times-cap c = λ i k e.
    let x = c.args in
    let h0 = ap (λ (q : Kind). leb (width_of q * P i) x.names) k ∙ names-fit (width_of x.kind) x.names (P i) (omega (arith, width_least x.kind)) (omega (arith, c.ids_in.ensures)) in
    let h1 : P i ≤ x.marks = omega arith in
    let h2 : P i ≤ x.levels = omega arith in
    let h3 : x.times < P i = omega arith in
    rw (h0, le-leb _ _ h1, le-leb _ _ h2, lt-leb _ _ h3)

pub returns-then-line-cap : goal.returns-then-line-cap
unfolding room_for
returns-then-line-cap c = λ i k e.
    let x = c.args in
    let h0 = ap (λ (q : Kind). leb (width_of q * P i) x.names) k ∙ names-fit (width_of x.kind) x.names (P i) (omega (arith, width_least x.kind)) (omega (arith, c.ids_in.ensures)) in
    let h1 : P i ≤ x.marks = omega arith in
    let h2 : P i ≤ x.levels = omega arith in
    let h3 : P i ≤ x.times = omega arith in
    let h4 : x.line < 5 * P i = omega arith in
    rw (h0, le-leb _ _ h1, le-leb _ _ h2, le-leb _ _ h3, lt-leb _ _ h4)

pub returns : goal.returns
unfolding room_for
returns c = λ i k e.
    let x = c.args in
    let h0 = ap (λ (q : Kind). leb (width_of q * P i) x.names) k ∙ names-fit (width_of x.kind) x.names (P i) (omega (arith, width_least x.kind)) (omega (arith, c.ids_in.ensures)) in
    let h1 : P i ≤ x.marks = omega arith in
    let h2 : P i ≤ x.levels = omega arith in
    let h3 : P i ≤ x.times = omega arith in
    let h4 : 5 * P i ≤ x.line = omega arith in
    rw (h0, le-leb _ _ h1, le-leb _ _ h2, le-leb _ _ h3, le-leb _ _ h4) (ap (λ (w : ℕ). leb (256 * w) x.parents) (c.width.ensures.0 ∙ sym (ap width_of k)))
