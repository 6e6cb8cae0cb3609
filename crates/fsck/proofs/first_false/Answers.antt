-- `fsck::first_false` meets its contract: while the names before entry k are true, what is found from 0 on is what is found from k on. Assumes nothing.
use borrow.Author.Rules.{rules}
use mathlib.Core.Path.{◌≡◌, sym, ◌∙◌, ap}
use native.Mathlib.Omega.{arith}
use Prim.Native.Nat.{◌+◌, ◌-◌}
use Rattle.hash.specs.Bytes.{width_of}
use Rattle.idlist.specs.IdList.{found_of}
use Rattle.odb.specs.Store.{entries}
use Rattle.odb.proofs.Store.{good-count}
use Rattle.fsck.specs.Names.{first_false}
use Rattle.fsck.proofs.Entries.{none_left, one-false, one-true}
use Rattle.fsck.proofs.first_false.Goals as goal

pub loop-k-init : goal.loop-k-init
loop-k-init c =
    let n = c.count-n.result in
    let e : n ≡ entries c.args.store.now = c.count-n.ensures ∙ good-count (width_of c.args.kind) c.args.store.now c.requires in
    (e, search rules, ap (first_false c.args.kind c.args.store.now 0) (omega (arith, e)))

pub is_named-requires : goal.is_named-requires
is_named-requires c = (c.requires, omega (arith, c.loop-k-test.true, c.loop-k.invariant.0))

pub returns-then-not-is_named : goal.returns-then-not-is_named
returns-then-not-is_named c =
    let l = c.loop-k in
    let n = c.count-n.result in
    sym (ap found_of (l.invariant.2 ∙ one-false c.args.kind c.args.store.now l.k (n - l.k) (omega (arith, c.loop-k-test.true)) (sym c.is_named.ensures ∙ c.if-not-is_named.true)))

pub loop-k-preserved : goal.loop-k-preserved
loop-k-preserved c =
    let l = c.loop-k in
    let n = c.count-n.result in
    let e : n - l.k - 1 ≡ n - (l.k + 1) = omega arith in (
      l.invariant.0,
      search rules,
      l.invariant.2
          ∙ one-true c.args.kind c.args.store.now l.k (n - l.k) (omega (arith, c.loop-k-test.true)) (sym c.is_named.ensures ∙ c.if-not-is_named.false)
          ∙ ap (first_false c.args.kind c.args.store.now (l.k + 1)) e,
    )

pub returns : goal.returns
returns c =
    let l = c.loop-k in
    let n = c.count-n.result in
    sym (ap found_of (l.invariant.2 ∙ none_left c.args.kind c.args.store.now l.k (n - l.k) (omega (arith, c.loop-k-test.false))))
