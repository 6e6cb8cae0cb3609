-- `feed::pass_lines` meets its contract. The loop's invariant: the lines passed and those from here on tell what all lines tell. The measure is
-- what is left. Assumes nothing.
use Prim.Native.Nat.{◌+◌, ◌-◌, ◌≤◌}
use mathlib.Core.Path.{◌≡◌, refl, sym, ap, ◌∙◌}
use native.Mathlib.Omega.{arith}
use lib.ListN.{length, drop, length-drop, drop_of_length-le}
use Rattle.hash.proofs.Bytes.{at_rest}
use Rattle.feed.specs.declared.Lines.{Lines}
use Rattle.feed.specs.Feed.{lines_of}
use Rattle.feed.specs.Passing.{line_length, pass_line, pass_lines}
use Rattle.feed.proofs.Splitting.{no_bytes, length_within, front-part, passed-at}
use Rattle.feed.proofs.pass_lines.Goals as goal

pub loop-p-init : goal.loop-p-init
loop-p-init c = refl

pub overflow_add-p : goal.overflow_add-p
overflow_add-p c =
    let long : c.line_length-n.result ≡ line_length (drop c.loop-p.p c.args.body.now) = c.line_length-n.ensures ∙ ap line_length (c.part-rest.ensures ∙ at_rest c.args.body.now c.loop-p.p (length c.args.body.now) (omega arith)) in
    let inside : c.line_length-n.result ≤ length c.args.body.now - c.loop-p.p = omega (arith, long, length_within (drop c.loop-p.p c.args.body.now), length-drop c.loop-p.p c.args.body.now) in
    omega (arith, inside)

pub overflow_add-p-in-loop-p : goal.overflow_add-p-in-loop-p
overflow_add-p-in-loop-p c =
    let long : c.line_length-n.result ≡ line_length (drop c.loop-p.p c.args.body.now) = c.line_length-n.ensures ∙ ap line_length (c.part-rest.ensures ∙ at_rest c.args.body.now c.loop-p.p (length c.args.body.now) (omega arith)) in
    let inside : c.line_length-n.result ≤ length c.args.body.now - c.loop-p.p = omega (arith, long, length_within (drop c.loop-p.p c.args.body.now), length-drop c.loop-p.p c.args.body.now) in
    omega (arith, inside)

pub loop-p-smaller : goal.loop-p-smaller
loop-p-smaller c =
    let long : c.line_length-n.result ≡ line_length (drop c.loop-p.p c.args.body.now) = c.line_length-n.ensures ∙ ap line_length (c.part-rest.ensures ∙ at_rest c.args.body.now c.loop-p.p (length c.args.body.now) (omega arith)) in
    let inside : c.line_length-n.result ≤ length c.args.body.now - c.loop-p.p = omega (arith, long, length_within (drop c.loop-p.p c.args.body.now), length-drop c.loop-p.p c.args.body.now) in
    omega (arith, inside)

pub loop-p-preserved : goal.loop-p-preserved
loop-p-preserved c =
    let long : c.line_length-n.result ≡ line_length (drop c.loop-p.p c.args.body.now) = c.line_length-n.ensures ∙ ap line_length (c.part-rest.ensures ∙ at_rest c.args.body.now c.loop-p.p (length c.args.body.now) (omega arith)) in
    let b = c.args.body.now in
    let p = c.loop-p.p in
    let s = c.loop-p.lines in
    let n = c.line_length-n.result in
    let r = c.part-rest.ensures ∙ at_rest b p (length b) (omega arith) in
    let t = c.pass_line-lines.ensures ∙ ap (pass_line s) (c.part.ensures ∙ front-part _ b p n r) in
    c.loop-p.invariant ∙ passed-at s b p n long ∙ sym (ap (λ (q : Lines). pass_lines q (lines_of (drop (p + n + 1) b))) t)

pub returns : goal.returns
returns c =
    let b = c.args.body.now in
    sym (c.loop-p.invariant ∙ no_bytes c.loop-p.lines (drop c.loop-p.p b) (drop_of_length-le b {i = c.loop-p.p} (omega arith)))
