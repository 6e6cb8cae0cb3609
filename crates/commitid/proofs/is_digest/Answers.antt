-- `commitid::is_digest` meets its contract: each kind has its digest. Assumes nothing.
use mathlib.Core.Path.{◌∙◌, ap}
use mathlib.Core.List.{List}
use Prim.Native.Nat.{ℕ}
use Rattle.hash.specs.Bytes.{eq_id}
use Rattle.commitid.proofs.is_digest.Goals as goal

pub returns-in-Sha1 : goal.returns-in-Sha1
returns-in-Sha1 c = let x = c.args in rw c.in-Sha1.is (c.same.ensures ∙ ap (λ (s : List ℕ). eq_id s x.id.now) c.sha1_of.ensures)

pub returns-in-Sha256 : goal.returns-in-Sha256
returns-in-Sha256 c = let x = c.args in rw c.in-Sha256.is (c.same-in-Sha256.ensures ∙ ap (λ (s : List ℕ). eq_id s x.id.now) c.sha256_of.ensures)
