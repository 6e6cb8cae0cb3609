-- `idlist::stands` meets its contract: each early answer breaks one of the three conditions, and the product, or where it might be too large
-- the quotient, decides the last. Assumes nothing.
use native.Mathlib.Omega.{arith}
use Rattle.hash.proofs.Decides.{decided-no}
use Rattle.idlist.proofs.Place.{fit, fit_product, product}
use borrow.Author.Rules.{rules}
use Rattle.idlist.proofs.stands.Goals as goal

pub returns-then-stride-eq0 : goal.returns-then-stride-eq0
returns-then-stride-eq0 c = decided-no (λ t. omega (arith, t.moves))

pub returns-then-stride-width : goal.returns-then-stride-width
returns-then-stride-width c = decided-no (λ t. omega (arith, t.apart))

pub returns-then-bytes-base : goal.returns-then-bytes-base
returns-then-bytes-base c = decided-no (λ t. omega (arith, t.inside))

pub overflow_mul-result : goal.overflow_mul-result
overflow_mul-result c = record { fits = product _ _ (search rules) (search rules) }

pub returns-then-stride-lt4294967296 : goal.returns-then-stride-lt4294967296
returns-then-stride-lt4294967296 c = fit_product _ _ (search rules) (search rules) (search rules)

pub returns : goal.returns
returns c = fit _ _ (search rules) (search rules) (search rules)
