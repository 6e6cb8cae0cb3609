-- What holds of every list of calls on any input: no commit is handed out twice, end stays, and the numbers stay within P.
-- Assumes nothing.
use Rattle.std.specs.Prelude.{◌≡◌, ◌⊎◌, ℕ, ◌≤◌, true, List, [], ◌∷◌, ◌++◌, length}
use Rattle.hash.specs.Bytes.{Id}
use Rattle.object.specs.Header.{most}
use Rattle.walk.specs.declared.Refusal.{Refusal}
use Rattle.walk.specs.Refusals.{number_of}
use Rattle.walk.specs.State.{State}
use Rattle.walk.specs.Opening.{Input, P, open_walk, opened}
use Rattle.walk.specs.Next.{Kind, end, refused, handed, Answer}
use Rattle.walk.specs.Calls.{answers, state_after, answer_at_call}
use Rattle.walk.specs.Reach.{Mem, NoDup}
use Rattle.walk.specs.Sums.{EndsBy}

-- the id that an answer hands out, if it does
unfoldable pub handed_by : Kind → List Id
handed_by end = []
handed_by (refused n) = []
handed_by (handed x l t) = x ∷ []

-- the ids that a list of answers hands out, in order
unfoldable pub handed_ids : List Answer → List Id
handed_ids [] = []
handed_ids (a ∷ rest) = handed_by a.kind ++ handed_ids rest

-- no commit is handed out twice: any bytes, any lists, any settings, any number of calls
unfoldable pub Once : Input → Type 0
Once i = (k : ℕ) → NoDup (handed_ids (answers i k))

-- once an answer says end, every later one does
pub data Lasts : List Answer → Type 0 where
  no_call : Lasts []
  call : {a : Answer} {rest : List Answer} → (a.kind ≡ end → EndsBy 0 rest) → Lasts rest → Lasts (a ∷ rest)

unfoldable pub EndStays : Input → Type 0
EndStays i = (k : ℕ) → Lasts (answers i k)

-- a state fits into the lent memory: the queue, the number ever admitted, and the different ids that are seen or in the frontier
pub record Fits (n : ℕ) (st : State) : Type 0 where
  pub queue-fits : length st.queue ≤ n
  pub admitted-fits : st.admitted ≤ n
  pub names-fit : (l : List Id) → NoDup l → ((x : Id) → Mem x l → (st.seen x ≡ true) ⊎ (st.frontier x ≡ true)) → length l ≤ n

-- P places suffice for the state after every number of calls
unfoldable pub AllFit : Input → Type 0
AllFit i = (st : State) → open_walk i true ≡ opened st → (k : ℕ) → Fits (P i) (state_after i k)

-- the numbers of an answer, and the parents that it counts
pub record Numbers (n : ℕ) (a : Answer) : Type 0 where
  pub admitted_in : a.admitted ≤ n
  pub struck_in : a.struck ≤ n
  pub waiting_in : a.waiting ≤ n
  pub parents_in : length a.parents ≤ most

-- no number of an answer passes P, and no answer has more than 256 parents
unfoldable pub AllNumbers : Input → Type 0
AllNumbers i = (k : ℕ) (a : Answer) → Mem a (answers i k) → Numbers (P i) a

-- a refusal of a next call: 9, 10 or 11
abbrev pub OfCall : Refusal → Type 0
OfCall r = (9 ≤ number_of r) × (number_of r ≤ 11)

-- 12 comes "never for an opened one on untouched memory": a call after an accepted opening is refused by 9 to 11 alone
unfoldable pub RefusedByCall : Input → Type 0
RefusedByCall i = (st : State) → open_walk i true ≡ opened st → (k : ℕ) (r : Refusal) → (answer_at_call i k).kind ≡ refused r → OfCall r
