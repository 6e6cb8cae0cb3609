-- `object::decode` meets its contract: zeros stand after the bytes that were decoded. Assumes nothing.
use Rattle.object.proofs.Digits.{decoded_value}
use borrow.Author.Rules.{rules}
use Rattle.object.proofs.decode.Goals as goal

pub returns : goal.returns
returns c = decoded_value c.requires.w_bound c.decode_to.auto.out c.decode_to.ensures
