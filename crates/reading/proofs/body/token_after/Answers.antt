-- `reading::token_after` meets its contract: the token at that place. Assumes nothing.
use mathlib.Core.Path.{◌∙◌, ap}
use Rattle.commititer.specs.Token.{token_at}
use borrow.Author.Rules.{rules}
use Rattle.reading.proofs.body.token_after.Reads as reads
use Rattle.commititer.proofs.parents_place.Reads as parents-place-reads
use Rattle.commititer.proofs.read_token.Reads as read-token-reads
use Rattle.reading.proofs.body.token_after.Goals as goal

pub returns : goal.returns
returns c = c.read_token.ensures ∙ ap (token_at _ _) c.parents_place.ensures
