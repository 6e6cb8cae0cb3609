-- `hashtable::words::same_at` meets its contract: twenty bytes are all of a SHA-1 id, and of a SHA-256 id the twelve after them decide. Assumes nothing.
use mathlib.Core.Path.{refl, sym, ◌∙◌}
use native.Mathlib.Omega.{arith}
use borrow.Author.Tests.{not-true, not-false}
use Rattle.hash.proofs.Tests.{clash}
use Rattle.hash.specs.Bytes.{width_of}
use Rattle.hash.proofs.Widths.{width_1, width_256, width_least}
use Rattle.hashtable.proofs.TableWords.{by-start, by-rest, start_of_lem, rest_of}
use borrow.Author.Rules.{rules}
use Rattle.hashtable.proofs.words.same_at.Goals as goal

pub same_start-requires : goal.same_start-requires
same_start-requires c = let x = c.args in (omega (arith, c.requires.0, width_least x.kind), omega (arith, c.requires.1, width_least x.kind))

pub returns-then-not-same_start : goal.returns-then-not-same_start
returns-then-not-same_start c =
    let x = c.args in
    record { yes = λ e. clash e refl; not = λ _ f. c.same_start.ensures.not c.if-not-same_start.true (start_of_lem x.names.now x.i x.id.now (width_of x.kind) (width_least x.kind) f) }

pub same_rest-requires : goal.same_rest-requires
same_rest-requires c = (omega (arith, c.requires.0, width_256 c.in-Sha256.is), omega (arith, c.requires.1, width_256 c.in-Sha256.is))

pub returns-in-Sha1 : goal.returns-in-Sha1
returns-in-Sha1 c =
    let x = c.args in
    record { yes = λ e. by-start x.names.now x.i x.id.now (width_of x.kind) (width_1 c.in-Sha1.is) c.requires.0 c.requires.1 (c.same_start.ensures.yes c.if-not-same_start.false); not = λ e. clash refl e }

pub returns-in-Sha256 : goal.returns-in-Sha256
returns-in-Sha256 c =
    let x = c.args in
    record {
      yes = λ e. by-rest x.names.now x.i x.id.now (width_of x.kind) (width_256 c.in-Sha256.is) c.requires.0 c.requires.1 (c.same_start.ensures.yes c.if-not-same_start.false) (c.same_rest.ensures.yes e);
      not = λ e f. c.same_rest.ensures.not e (rest_of x.names.now x.i x.id.now (width_of x.kind) (width_256 c.in-Sha256.is) f);
    }
