-- `graphwrite::write_file` meets its contract: the parts stand one after another, each where the one before it ends. Assumes nothing.
use mathlib.Core.Path.{◌≡◌, ◌∙◌, ap, subst}
use Prim.Native.Nat.{ℕ, ◌+◌, ◌*◌, ◌≤◌}
use native.Mathlib.Omega.{arith}
use lib.ListN.{length}
use Rattle.hash.specs.Bytes.{width_of}
use Rattle.hash.proofs.Widths.{times-most}
use Rattle.graphfile.specs.GraphFile.{rows_end}
use Rattle.graphbytes.specs.Words.{front_length}
use Rattle.graphwrite.proofs.Laid.{length_is, front_least, file-laid}
use Rattle.graphwrite.proofs.write_file.Goals as goal

pub write_front-requires : goal.write_front-requires
write_front-requires c =
    let x = c.args in
    let w = width_of x.kind in
    let a = subst (λ (y : ℕ). y ≤ length x.out.now) (length_is w x.n x.e) c.requires.5 in
    let o = c.front_length-o.ensures.0 in
    let f = front_least x.e in
    (omega (arith, a, f), c.requires.3, c.requires.4)

pub write_fan-requires : goal.write_fan-requires
write_fan-requires c =
    let x = c.args in
    let w = width_of x.kind in
    let a = subst (λ (y : ℕ). y ≤ length x.out.now) (length_is w x.n x.e) c.requires.5 in
    let o = c.front_length-o.ensures.0 in
    let f = front_least x.e in
    (c.requires.0, omega (arith, a, o, c.write_front.auto.out))

pub write_ids-requires : goal.write_ids-requires
write_ids-requires c =
    let x = c.args in
    let w = width_of x.kind in
    let a = subst (λ (y : ℕ). y ≤ length x.out.now) (length_is w x.n x.e) c.requires.5 in
    let o = c.front_length-o.ensures.0 in
    let f = front_least x.e in
    (c.requires.0, omega (arith, a, o, c.write_front.auto.out, c.write_fan.auto.out))

pub overflow_mul-rows : goal.overflow_mul-rows
overflow_mul-rows c =
    let x = c.args in
    let w = width_of x.kind in
    let a = subst (λ (y : ℕ). y ≤ length x.out.now) (length_is w x.n x.e) c.requires.5 in
    let o = c.front_length-o.ensures.0 in
    let f = front_least x.e in
    omega (arith, times-most c.width.result 32 x.n 1048576 c.width.ensures.2 c.requires.3)

pub overflow_add-rows-2 : goal.overflow_add-rows-2
overflow_add-rows-2 c =
    let x = c.args in
    let w = width_of x.kind in
    let a = subst (λ (y : ℕ). y ≤ length x.out.now) (length_is w x.n x.e) c.requires.5 in
    let o = c.front_length-o.ensures.0 in
    let f = front_least x.e in
    omega (arith, times-most c.width.result 32 x.n 1048576 c.width.ensures.2 c.requires.3, c.front_length-o.ensures.1)

pub write_rows-requires : goal.write_rows-requires
write_rows-requires c =
    let x = c.args in
    let w = width_of x.kind in
    let a = subst (λ (y : ℕ). y ≤ length x.out.now) (length_is w x.n x.e) c.requires.5 in
    let o = c.front_length-o.ensures.0 in
    let f = front_least x.e in
    (c.requires.0, c.requires.1, omega (arith, a, o, ap (λ (y : ℕ). y * x.n) c.width.ensures.0, c.write_front.auto.out, c.write_fan.auto.out, c.write_ids.auto.out))

pub write_edges-requires : goal.write_edges-requires
write_edges-requires c =
    let x = c.args in
    let w = width_of x.kind in
    let a = subst (λ (y : ℕ). y ≤ length x.out.now) (length_is w x.n x.e) c.requires.5 in
    let o = c.front_length-o.ensures.0 in
    let f = front_least x.e in
    (c.requires.0, omega (arith, a, c.rows_end-end.ensures.0, ap (λ (y : ℕ). rows_end w y x.n) o, c.requires.2, c.write_front.auto.out, c.write_fan.auto.out, c.write_ids.auto.out, c.write_rows.auto.out))

pub overflow_mul-e : goal.overflow_mul-e
overflow_mul-e c = omega (arith, c.requires.4)

pub overflow_add-end : goal.overflow_add-end
overflow_add-end c = omega (arith, c.requires.4, c.rows_end-end.ensures.1)

pub returns : goal.returns
returns c =
    let x = c.args in
    let w = width_of x.kind in
    let o = c.front_length-o.ensures.0 in
    let r : c.rows_end-end.result ≡ rows_end w (front_length x.e) x.n = c.rows_end-end.ensures.0 ∙ ap (λ (y : ℕ). rows_end w y x.n) o in
    file-laid x.kind x.store.now x.n x.e c.requires.0 c.requires.2 x.out.now c.requires.5 _ _ _ _ _ c.write_front.ensures c.write_fan.ensures c.write_ids.ensures c.write_rows.ensures c.write_edges.ensures c.write_sum.ensures o (ap (λ (y : ℕ). y + 1024) o) (omega (arith, o, ap (λ (y : ℕ). y * x.n) c.width.ensures.0)) r (ap (λ (y : ℕ). y + 4 * x.e) r)
