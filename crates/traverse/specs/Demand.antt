-- The third demand: one claim about an opening and every list of next calls after it, from what an opening and a next call promise
-- (`OpenSays`, `NextSays`). Assumes nothing.
use Rattle.std.specs.Prelude.{ℕ, zero, suc, ◌+◌, ◌≤◌, ◌<◌, ◌≡◌, ◌↔◌, Bool, true, cond, List, [], ◌∷◌, ◌++◌, map, length, take, get_or, ltb, Err, None, Ok}
use Rattle.hash.specs.Bytes.{Id}
use Rattle.object.specs.Ids.{padded, id_in}
use Rattle.walk.specs.declared.Refusal.{Refusal}
use Rattle.walk.specs.declared.Outcome.{Outcome}
use Rattle.walk.specs.declared.Outcome.TheVariants.{Commit, End, Refused}
use Rattle.walk.specs.State.{State}
use Rattle.walk.specs.Opening.{Input, walk_of, list_ids, refusal, room_for, P, width_in}
use Rattle.walk.specs.Next.{Answer}
use Rattle.walk.specs.Calls.{answer_at_call}
use Rattle.walk.specs.Reach.{Mem, NoDup}
use Rattle.walk.specs.Demand.{Premises, Listed}
use Rattle.walk.specs.AnyInput.{OfCall}
use Rattle.walk.specs.Given.{Given, given, parents_given, no_id}
use Rattle.state.specs.declared.Record.{Record}
use Rattle.state.specs.Reads.{Shape, Reads, closed_record}
use Rattle.traverse.specs.declared.Opened.{Opened}
use Rattle.traverse.specs.declared.Out.{Out}
use Rattle.traverse.specs.Contract.{Files, Lent, lengths_of, OpenSays, NextSays, closed_answer}

-- ---- a list of next calls

-- one call: the memory that it was lent, what it gave back, and the memory that it left
pub record Call : Type 0 where
  pub lent : Lent
  pub out : Out
  pub left : Lent

-- "memory untouched since": m was left beside the record r, and m' is lent. A changed length counts as touched; "bytes that so read beside
-- the record last given back count as untouched, whatever else they hold"; levels and parents are free
pub record Untouched (r : Record) (m m' : Lent) : Type 0 where
  pub same-lengths : lengths_of m' ≡ lengths_of m
  pub reads_same : (sh : Shape) (st : State) → Reads r m.memory sh st → Reads r m'.memory sh st

-- "The caller lends each of them the opening's files, lists and settings, the record that the opening or the call before gave back, and
-- memory untouched since": any list of next calls, also an empty one, with the files f, after the record r was given back beside the memory m
pub data Calls (f : Files) : Record → Lent → List Call → Type 0 where
  no_more-calls : {r : Record} {m : Lent} → Calls f r m []
  call : {r : Record} {m : Lent} {c : Call} {rest : List Call}
      → Untouched r m c.lent → NextSays f r c.lent c.out c.left → Calls f c.out.record c.left rest → Calls f r m (c ∷ rest)

-- the opening's files, lists and settings
abbrev pub files_of : Input → Files
files_of i = record { store = i.store; graph = i.graph; hidden = i.hidden; excluded = i.excluded; settings = i.settings }

-- of a list of calls, however a call is written down: the one of number k, counted from 0, is c
pub data CallIs {A : Type 0} : List A → ℕ → A → Type 0 where
  here : {c : A} {cs : List A} → CallIs (c ∷ cs) zero c
  after : {c d : A} {cs : List A} {k : ℕ} → CallIs cs k c → CallIs (d ∷ cs) (suc k) c

-- ---- read off the answers

unfoldable pub answers_of : List Call → List Given
answers_of cs = map (λ c. c.out.answer) cs

unfoldable pub id_if : Outcome → Id → List Id
id_if Commit x = x ∷ []
id_if End x = []
id_if (Refused r) x = []

-- the ids handed out, in order, by their width
unfoldable pub handed_out : ℕ → List Given → List Id
handed_out width [] = []
handed_out width (a ∷ rest) = id_if a.outcome (id_in width a.info.id) ++ handed_out width rest

unfoldable pub refused_if : Outcome → Bool → ℕ
refused_if Commit left = 0
refused_if End left = 0
refused_if (Refused r) left = cond left 1 0

-- how many commits were refused; painting's own refusal "is no refused commit", and is told by all admitted commits being struck
unfoldable pub refused_commits : List Given → ℕ
refused_commits [] = 0
refused_commits (a ∷ rest) = refused_if a.outcome (ltb a.struck a.admitted) + refused_commits rest

-- ---- what is claimed of a list of calls

-- the call gave the walk's answer a "in all its fields and with the ids set down in parents"
pub record Gives (c : Call) (a : Answer) : Type 0 where
  pub all-fields : c.out.answer ≡ given a
  pub ids-set_down : c.left.parents ≡ parents_given a c.lent.parents

-- "the answers are those of 01's walk", "which is fed only the opening's files, lists and settings and the number of calls"
unfoldable pub OfTheWalk : Input → List Call → Type 0
OfTheWalk i cs = (k : ℕ) (c : Call) → CallIs cs k c → Gives c (answer_at_call i k)

-- with the n commits to be handed out as a list
pub record Lists (i : Input) (list : List Id) (cs : List Call) : Type 0 where
  -- "Then the answers are those of 01's walk,"
  pub of_the_walk : OfTheWalk i cs
  -- "and the first n, or all if the calls are fewer, hand out different ones of these n,"
  pub first_n : (k : ℕ) (c : Call) → CallIs cs k c → k < length list → (c.out.answer.outcome ≡ Commit) × (c.out.answer.info.id ≡ padded (get_or list k no_id))
  pub different : NoDup (handed_out (width_in i) (answers_of cs))
  pub of_these : (x : Id) → Mem x (handed_out (width_in i) (answers_of cs)) → Mem x list
  -- "so n calls hand out exactly them, each once."
  pub n_calls : length list ≤ length cs → handed_out (width_in i) (answers_of cs) ≡ list
  -- "Every answer after the first n says end,"
  pub after_n : (k : ℕ) (c : Call) → CallIs cs k c → length list ≤ k → c.out.answer.outcome ≡ End
  -- "and no answer is a refusal."
  pub no-refusal : (k : ℕ) (c : Call) → CallIs cs k c → (r : Refusal) → c.out.answer.outcome ≡ Refused r → ⊥

-- under the premises
pub record Delivered (i : Input) (o : Opened) (m : Lent) : Type 0 where
  -- "an opening to which none of 01's 1 to 6 applies is accepted"
  pub accepted : o.answer.outcome ≡ (Ok tt)
  -- the n different "commits reachable from an admitted tip over admitted links and from no hidden tip", and no others
  pub list : List Id
  pub no_repeats : NoDup list
  pub exactly : (x : Id) → Mem x list ↔ Listed (walk_of i) (list_ids (width_in i) i.tips) x
  -- "Take any list of next calls, also an empty one"
  pub every-list : (cs : List Call) → Calls (files_of i) o.record m cs → Lists i list cs

-- with no premises, after an accepted opening
pub record AnyCalls (i : Input) (cs : List Call) : Type 0 where
  pub of_the_walk : OfTheWalk i cs
  -- no commit is handed out twice
  pub different : NoDup (handed_out (width_in i) (answers_of cs))
  -- "handed and refused counted from the answers: admitted = handed + refused commits + struck by painting + waiting"
  pub sum : (k : ℕ) (c : Call) → CallIs cs k c
      → c.out.answer.admitted
      ≡ length (handed_out (width_in i) (take (suc k) (answers_of cs))) + refused_commits (take (suc k) (answers_of cs)) + c.out.answer.struck + c.out.answer.waiting
  -- "call P + 2 at latest says end" (its number is P + 1 counted from 0), and once said it stays
  pub end_by : (k : ℕ) (c : Call) → CallIs cs k c → P i + 1 ≤ k → c.out.answer.outcome ≡ End
  pub end_stays : (j k : ℕ) (c d : Call) → CallIs cs j c → CallIs cs k d → j ≤ k → c.out.answer.outcome ≡ End → d.out.answer.outcome ≡ End
  -- a refusal is 9, 10 or 11: 12 comes "never for an opened one on untouched memory"
  pub refused-by : (k : ℕ) (c : Call) → CallIs cs k c → (r : Refusal) → c.out.answer.outcome ≡ Refused r → OfCall r

-- after a refused opening: "12 alters nothing, comes for every closed record"
pub record Shut (c : Call) : Type 0 where
  pub is-twelve : c.out.answer ≡ closed_answer
  pub same_record : c.out.record ≡ closed_record
  pub nothing_altered : c.left ≡ c.lent

-- ---- the claim

-- of an opening with the input i and the lent memory m, whatever it gave back (o, and memory left as m'), and every list of next calls after it
pub record ThirdDemand (i : Input) (m : Lent) : Type 0 where
  -- none of 1 to 6 applies, and the premises hold
  pub demanded : (o : Opened) (m' : Lent) → OpenSays i m o m' → refusal i ≡ None → room_for i (lengths_of m) ≡ true → Premises (walk_of i) (list_ids (width_in i) i.tips) → Delivered i o m'
  -- any accepted opening
  pub accepted-calls : (o : Opened) (m' : Lent) → OpenSays i m o m' → o.answer.outcome ≡ (Ok tt)
      → (cs : List Call) → Calls (files_of i) o.record m' cs → AnyCalls i cs
  -- any refused opening, and calls with any files
  pub refused-calls : (o : Opened) (m' : Lent) → OpenSays i m o m' → (r : Refusal) → o.answer.outcome ≡ Err r
      → (f : Files) (cs : List Call) → Calls f o.record m' cs → (k : ℕ) (c : Call) → CallIs cs k c → Shut c
