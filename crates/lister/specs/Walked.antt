-- The refusals among a walk's answers, and ids set down one behind the other. Assumes nothing.
use Rattle.std.specs.Prelude.{ℕ, suc, ◌+◌, ◌*◌, List, [], ◌∷◌}
use Rattle.hash.specs.Bytes.{Id, set_down}
use Rattle.walk.specs.declared.Outcome.{Outcome}
use Rattle.walk.specs.declared.Outcome.TheVariants.{End, Refused}
use Rattle.walk.specs.Next.{Kind, end, refused, handed, Answer}

-- 1 for a refusal
abbrev pub refused_by : Kind → ℕ
refused_by end = 0
refused_by (refused r) = 1
refused_by (handed x g t) = 0

-- how many answers are refusals
unfoldable pub refusals : List Answer → ℕ
refusals [] = 0
refusals (a ∷ rest) = refused_by a.kind + refusals rest

-- a refusal, or else another outcome
abbrev pub refusal_or : Kind → Outcome → Outcome
refusal_or end o = o
refusal_or (refused r) o = Refused r
refusal_or (handed x g t) o = o

-- the first refusal among them, or End where there is none
unfoldable pub first_refusal : List Answer → Outcome
first_refusal [] = End
first_refusal (a ∷ rest) = refusal_or a.kind (first_refusal rest)

-- ids so wide set down one behind the other, behind n others; one that does not fit changes nothing
unfoldable pub put_down : ℕ → List ℕ → ℕ → List Id → List ℕ
put_down width b n [] = b
put_down width b n (x ∷ xs) = put_down width (set_down b (width * n) x) (suc n) xs
