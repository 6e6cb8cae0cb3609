-- A whole walk: its answers, the list of all commits that they hand out, and what they leave in the caller's buffer parents. Assumes nothing.
use Rattle.std.specs.Prelude.{ℕ, ◌+◌, List, [], ◌∷◌, Err, Ok, Result}
use Rattle.walk.specs.declared.Refusal.{Refusal}
use Rattle.hash.specs.Bytes.{Id}
use Rattle.walk.specs.Opening.{Input, P}
use Rattle.walk.specs.Next.{Answer}
use Rattle.walk.specs.Calls.{answers}
use Rattle.walk.specs.AnyInput.{handed_ids}
use Rattle.walk.specs.Given.{parents_given}

-- the answers of a whole walk: "call P + 2 at latest says end"
abbrev pub all_answers : Input → List Answer
all_answers i = answers i (P i + 2)

-- the whole list: the ids that they hand out, in order
unfoldable pub whole_list : Input → List Id
whole_list i = handed_ids (all_answers i)

-- the buffer parents after these answers
unfoldable pub parents_left : List Answer → List ℕ → List ℕ
parents_left [] b = b
parents_left (a ∷ rest) b = parents_left rest (parents_given a b)

-- how many calls may follow an opening with P slots
abbrev pub most_calls : Result (Unit {0}) Refusal → ℕ → ℕ
most_calls (Ok _) p = p + 2
most_calls (Err r) p = 0
