-- The line of an answer as the code gives it is the line of that answer of the walk. Assumes nothing.
use mathlib.Core.Path.{◌≡◌, refl, sym, ap}
use mathlib.Core.List.Memᴰ
use Prim.Native.Nat.{ℕ, ◌≤◌}
use lib.ListN.{length}
use Rattle.hash.specs.Bytes.{Id}
use Rattle.object.specs.Ids.{id_room, id_in}
use Rattle.object.proofs.IdBytes.{id_in_lem}
use Rattle.walk.specs.Reach.{Mem}
use Rattle.walk.specs.AnyInput.{handed_by}
use Rattle.walk.specs.declared.Refusal.{Refusal}
use Rattle.walk.specs.declared.Outcome.{Outcome}
use Rattle.walk.specs.declared.Outcome.TheVariants.{Commit, End, Refused}
use Rattle.walk.specs.Next.{Kind, end, refused, handed}
use Rattle.walk.specs.Given.{outcome_of, id_of_kind}
use Rattle.swatch.specs.Text.{commit_line, refusal_line, end_line, line_of, line_given}

-- ---- by outcome

pub commit-line : {o : Outcome} (w : ℕ) (x : Id) (n : ℕ) → o ≡ Commit → commit_line (id_in w x) n ≡ line_given w o x n
unfolding line_given
commit-line w x n e = sym (ap (λ (k : Outcome). line_given w k x n) e)

pub end_line_lem : {o : Outcome} (w : ℕ) (x : Id) (n : ℕ) → o ≡ End → end_line ≡ line_given w o x n
unfolding line_given
end_line_lem w x n e = sym (ap (λ (k : Outcome). line_given w k x n) e)

pub refusal-line : {o : Outcome} {r : Refusal} (w : ℕ) (x : Id) (n : ℕ) → o ≡ Refused r → refusal_line r ≡ line_given w o x n
unfolding line_given
refusal-line w x n e = sym (ap (λ (k : Outcome). line_given w k x n) e)

-- ---- by kind

pub given-line : (w : ℕ) → w ≤ id_room → (k : Kind) (n : ℕ) → ((x : Id) → Mem x (handed_by k) → length x ≡ w) → line_given w (outcome_of k) (id_of_kind k) n ≡ line_of k n
unfolding line_given line_of handed_by
given-line w small end n h = refl
given-line w small (refused r) n h = refl
given-line w small (handed x g t) n h = ap (λ (y : Id). commit_line y n) (id_in_lem w x (h x (Memᴰ.head refl)) small)
