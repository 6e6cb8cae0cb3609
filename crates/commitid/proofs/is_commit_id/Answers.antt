-- `commitid::is_commit_id` meets its contract: the header is what stands from its start on. Assumes nothing.
use mathlib.Core.Path.{◌∙◌, ap}
use native.Mathlib.Omega.{arith}
use mathlib.Core.List.{List, ◌++◌}
use Prim.Native.Nat.{ℕ, ◌-◌}
use Rattle.hash.specs.Bytes.{eq_id}
use lib.ListN.{drop, length-drop}
use lib.Seq.{take_all}
use Rattle.commitid.specs.Name.{digest_of, commit_object, commit_id}
use Rattle.commitid.proofs.is_commit_id.Goals as goal

pub returns : goal.returns
unfolding commit_id commit_object
returns c = let x = c.args in
    let g = c.header-start in
    c.is_digest.ensures
    ∙ ap (λ (s : List ℕ). eq_id (digest_of x.kind (s ++ x.body.now)) x.id.now) (take_all (28 - g.result) (drop g.result g.new.b) (simp length-drop (omega (arith, g.auto.b))) ∙ g.ensures.0)
