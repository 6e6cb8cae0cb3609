-- `odb::body_end` meets its contract. The end stands after the id of entry k. Assumes nothing.
use mathlib.Core.Path.{◌∙◌, ap}
use Prim.Native.Nat.{ℕ, ◌+◌, ◌*◌}
use Rattle.hash.specs.Bytes.{u32_at}
use Rattle.odb.specs.Store.{entry_size, body_end}
use borrow.Author.Rules.{rules}
use Rattle.odb.proofs.body_end.Goals as goal

pub returns : goal.returns
unfolding body_end
returns c =
    c.wide.ensures.0 ∙ c.be32.ensures ∙ ap (λ (i : ℕ). u32_at c.args.store.now (i + entry_size c.args.w * c.args.k + c.args.w)) c.requires.0
