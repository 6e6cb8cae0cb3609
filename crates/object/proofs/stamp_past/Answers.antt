-- `object::stamp_past` meets its contract: the lines that are passed over are parent lines, so what stands after them all is the same.
-- Assumes nothing.
use mathlib.Core.Path.{◌≡◌, sym, ◌∙◌, ap}
use Prim.Native.Nat.{ℕ, ◌+◌, ◌*◌, ◌≤◌}
use native.Mathlib.Nat.{mul-le-mul_left, mul-le-mul_right}
use native.Mathlib.Omega.{arith}
use lib.ListN.{drop}
use Rattle.object.specs.Header.{tree_size, parent_size, author_line, after_author}
use Rattle.object.specs.Read.{stamp_read, after_parents}
use Rattle.object.proofs.Headers.{header_lines, stamp-past}
use Rattle.hash.specs.Bytes.{width_of}
use borrow.Author.Rules.{rules}
use Rattle.object.proofs.stamp_past.Goals as goal

-- 256 parent lines are few
few : {n k : ℕ} → n ≤ 72 → k ≤ 256 → n * k ≤ 18432
few {n} {k} h m = omega (arith, mul-le-mul_right k h, mul-le-mul_left 72 m)

pub returns-then-known-gt-MOST_PARENTS : goal.returns-then-known-gt-MOST_PARENTS
returns-then-known-gt-MOST_PARENTS c = λ g h.
    let x = c.args in
    let l = (header_lines (width_of x.kind) x.body.now g).few in
    absurd (omega (arith, c.if-known-gt-MOST_PARENTS.true))

pub overflow_mul-at : goal.overflow_mul-at
overflow_mul-at c = record { fits = omega (arith, few c.parent_size-size.ensures.1 c.if-known-gt-MOST_PARENTS.false) }

pub overflow_add-at : goal.overflow_add-at
overflow_add-at c = record { fits = omega (arith, few c.parent_size-size.ensures.1 c.if-known-gt-MOST_PARENTS.false, c.tree_size.ensures.1) }

pub returns : goal.returns
returns c = λ g h.
    let x = c.args in
    let w = width_of x.kind in
    let b = x.body.now in
    let size = c.parent_size-size.ensures.0 in
    let tree = c.tree_size.ensures.0 in
    c.person_lines.ensures
    ∙ ap (λ (k : ℕ). stamp_read (after_author (author_line (drop k b)))) c.after_parents.ensures
    ∙ ap (λ (k : ℕ). stamp_read (after_author (author_line (drop (after_parents w b (c.tree_size.result + k * x.known)) b)))) size
    ∙ ap (λ (k : ℕ). stamp_read (after_author (author_line (drop (after_parents w b (k + parent_size w * x.known)) b)))) tree
    ∙ ap stamp_read (sym (stamp-past w b g x.known h))
