-- `object::starts_with` meets its contract: a word stands in front where the first bytes are the word's. Assumes nothing.
use mathlib.Core.Path.{sym, ◌∙◌, ap}
use mathlib.Core.List.{List}
use Prim.Native.Nat.{ℕ}
use lib.ListN.{drop}
use Rattle.hash.specs.Bytes.{eq_id, at}
use Rattle.object.proofs.Words.{starts}
use borrow.Author.Rules.{rules}
use Rattle.object.proofs.starts_with.Goals as goal

pub returns : goal.returns
unfolding at
returns c = let x = c.args in
    c.same.ensures ∙ ap (λ (l : List ℕ). eq_id l x.word.now) c.part.ensures ∙ sym (starts x.word.now (drop x.at x.body.now))
