-- The third demand for callers of the library: an opening and every list of next calls after it, over what a caller sees of them, the
-- results and the lent buffers. It is the claim of traverse/specs/Demand.antt, sentence by sentence. Assumes nothing.
use Rattle.std.specs.Prelude.{ℕ, suc, ◌+◌, ◌≤◌, ◌<◌, ◌≡◌, ◌↔◌, Bool, true, cond, List, [], ◌∷◌, ◌++◌, length, take, get_or, eqb, ltb, ℤ, None, Ok}
use Rattle.hash.specs.Bytes.{Id, width_of}
use Rattle.walk.specs.declared.Refusal.{Refusal}
use Rattle.walk.specs.declared.Refusal.TheVariants.{Closed}
use Rattle.walk.specs.declared.Outcome.TheVariants.{Commit, End}
use Rattle.walk.specs.Refusals.{number_of}
use Rattle.walk.specs.Opening.{Input, width_in, walk_of, list_ids, refusal, room_for, P}
use Rattle.walk.specs.Next.{Answer}
use Rattle.walk.specs.Calls.{answer_at_call}
use Rattle.walk.specs.Reach.{Mem, NoDup}
use Rattle.walk.specs.Demand.{Premises, Listed}
use Rattle.walk.specs.AnyInput.{OfCall}
use Rattle.walk.specs.Given.{given, parents_given, no_id, outcome_number, open_number}
use Rattle.traverse.specs.Contract.{Files, Lent, lengths_of, closed_answer}
use Rattle.traverse.specs.Demand.{Untouched, files_of, CallIs}
use Rattle.wire.specs.Words.{record_of, room_to_open, room_to_call}
use Rattle.wire.specs.Numbers.{PutsAnswer}
use Rattle.linenhatch.specs.Library.{LibraryOpensTested, LibraryOpens, LibraryNext}

-- ---- a list of next calls

-- one next call: the buffers that it was lent, as it left them, and its result
pub record LibraryCall : Type 0 where
  pub lent : Lent
  pub left : Lent
  pub words : List ℕ
  pub words' : List ℕ
  pub id : List ℕ
  pub id' : List ℕ
  pub numbers : List ℕ
  pub numbers' : List ℕ
  pub seconds : List ℤ
  pub seconds' : List ℤ
  pub result : ℕ

-- what linenhatch_next promises of it
abbrev pub Kept : Files → LibraryCall → Type 0
Kept f c = LibraryNext f c.lent c.left c.words c.words' c.id c.id' c.numbers c.numbers' c.seconds c.seconds' c.result

-- "The caller lends each of them the opening's files, lists and settings, the record that the opening or the call before gave back, and
-- memory untouched since", and room for the answer: any list of next calls, also an empty one, after the words w and the memory m
pub data LibraryCalls (f : Files) : List ℕ → Lent → List LibraryCall → Type 0 where
  no_more-calls : {w : List ℕ} {m : Lent} → LibraryCalls f w m []
  call : {w : List ℕ} {m : Lent} {c : LibraryCall} {rest : List LibraryCall}
      → room_to_call (width_of f.settings.kind) c.words c.id c.numbers c.seconds ≡ true → record_of c.words ≡ record_of w → Untouched (record_of w) m c.lent
      → Kept f c → LibraryCalls f c.words' c.left rest → LibraryCalls f w m (c ∷ rest)

-- ---- read off the buffers

-- the id, so wide
abbrev pub id_seen : ℕ → LibraryCall → Id
id_seen width c = take width c.id'

-- "this walk's running numbers of commits admitted …, struck and waiting"
abbrev pub admitted_seen : LibraryCall → ℕ
admitted_seen c = get_or c.numbers' 0 0

abbrev pub struck_seen : LibraryCall → ℕ
struck_seen c = get_or c.numbers' 1 0

abbrev pub waiting_seen : LibraryCall → ℕ
waiting_seen c = get_or c.numbers' 2 0

unfoldable pub id_if_commit : ℕ → Id → List Id
id_if_commit n x = cond (eqb n (outcome_number Commit)) (x ∷ []) []

-- the ids handed out, in order
unfoldable pub ids_seen : ℕ → List LibraryCall → List Id
ids_seen width [] = []
ids_seen width (c ∷ rest) = id_if_commit c.result (id_seen width c) ++ ids_seen width rest

unfoldable pub one_if_refused : ℕ → Bool → ℕ
one_if_refused n left = cond (eqb n (outcome_number Commit)) 0 (cond (eqb n (outcome_number End)) 0 (cond left 1 0))

-- how many commits were refused; painting's own refusal "is no refused commit", and is told by all admitted commits being struck
unfoldable pub refused_seen : List LibraryCall → ℕ
refused_seen [] = 0
refused_seen (c ∷ rest) = one_if_refused c.result (ltb (struck_seen c) (admitted_seen c)) + refused_seen rest

-- ---- what is claimed of a list of calls

-- the call set down the walk's answer a "in all its fields and with the ids set down in parents"
pub record LibraryGives (width : ℕ) (c : LibraryCall) (a : Answer) : Type 0 where
  pub all-fields : PutsAnswer width (given a) c.id c.id' c.numbers c.numbers' c.seconds c.seconds' c.result
  pub ids-set_down : c.left.parents ≡ parents_given a c.lent.parents

-- "every answer … equals that of the walk as written here, which is fed only the opening's files, lists and settings and the number of
-- calls"
unfoldable pub LibraryOfTheWalk : Input → List LibraryCall → Type 0
LibraryOfTheWalk i cs = (k : ℕ) (c : LibraryCall) → CallIs cs k c → LibraryGives (width_in i) c (answer_at_call i k)

-- with the n commits to be handed out as a list
pub record LibraryLists (i : Input) (list : List Id) (cs : List LibraryCall) : Type 0 where
  -- "Then the answers are those of 01's walk,"
  pub of_the_walk : LibraryOfTheWalk i cs
  -- "and the first n, or all if the calls are fewer, hand out different ones of these n,"
  pub first_n : (k : ℕ) (c : LibraryCall) → CallIs cs k c → k < length list → (c.result ≡ outcome_number Commit) × (id_seen (width_in i) c ≡ get_or list k no_id)
  pub different : NoDup (ids_seen (width_in i) cs)
  pub of_these : (x : Id) → Mem x (ids_seen (width_in i) cs) → Mem x list
  -- "so n calls hand out exactly them, each once."
  pub n_calls : length list ≤ length cs → ids_seen (width_in i) cs ≡ list
  -- "Every answer after the first n says end,"
  pub after_n : (k : ℕ) (c : LibraryCall) → CallIs cs k c → length list ≤ k → c.result ≡ outcome_number End
  -- "and no answer is a refusal."
  pub no-refusal : (k : ℕ) (c : LibraryCall) → CallIs cs k c → (r : Refusal) → c.result ≡ number_of r → ⊥

-- under the premises, of an opening with the result n that left the words w and the memory m
pub record LibraryDelivered (i : Input) (w : List ℕ) (m : Lent) (n : ℕ) : Type 0 where
  -- "an opening to which none of 01's 1 to 6 applies is accepted"
  pub accepted : n ≡ open_number (Ok tt)
  -- the n different "commits reachable from an admitted tip over admitted links and from no hidden tip", and no others
  pub list : List Id
  pub no_repeats : NoDup list
  pub exactly : (x : Id) → Mem x list ↔ Listed (walk_of i) (list_ids (width_in i) i.tips) x
  -- "Take any list of next calls, also an empty one"
  pub every-list : (cs : List LibraryCall) → LibraryCalls (files_of i) w m cs → LibraryLists i list cs

-- with no premises, after an accepted opening
pub record LibraryAnyCalls (i : Input) (cs : List LibraryCall) : Type 0 where
  pub of_the_walk : LibraryOfTheWalk i cs
  -- no commit is handed out twice
  pub different : NoDup (ids_seen (width_in i) cs)
  -- "handed and refused counted from the answers: admitted = handed + refused commits + struck by painting + waiting"
  pub sum : (k : ℕ) (c : LibraryCall) → CallIs cs k c
      → admitted_seen c ≡ length (ids_seen (width_in i) (take (suc k) cs)) + refused_seen (take (suc k) cs) + struck_seen c + waiting_seen c
  -- "call P + 2 at latest says end" (its number is P + 1 counted from 0), and once said it stays
  pub end_by : (k : ℕ) (c : LibraryCall) → CallIs cs k c → P i + 1 ≤ k → c.result ≡ outcome_number End
  pub end_stays : (j k : ℕ) (c d : LibraryCall) → CallIs cs j c → CallIs cs k d → j ≤ k → c.result ≡ outcome_number End → d.result ≡ outcome_number End
  -- a refusal is 9, 10 or 11: 12 comes "never for an opened one on untouched memory"
  pub refused-by : (k : ℕ) (c : LibraryCall) → CallIs cs k c → (r : Refusal) → c.result ≡ number_of r → OfCall r

-- after a refused opening: "12 alters nothing, comes for every closed record", and its answer is zeros
pub record LibraryShut (width : ℕ) (c : LibraryCall) : Type 0 where
  pub is-twelve : c.result ≡ number_of Closed
  pub zeros : PutsAnswer width closed_answer c.id c.id' c.numbers c.numbers' c.seconds c.seconds' c.result
  pub same-words : c.words' ≡ c.words
  pub nothing_altered : c.left ≡ c.lent

-- ---- the claim

-- of an opening with the input i and the lent memory m, whatever its result n, and every list of next calls after it
pub record LibraryDemand (i : Input) (m m' : Lent) (words words' numbers numbers' : List ℕ) (n : ℕ) : Type 0 where
  -- there is room for the record and the numbers, none of 1 to 6 applies, and the premises hold
  pub demanded : LibraryOpens i m m' words words' numbers numbers' n → room_to_open words numbers ≡ true → refusal i ≡ None → room_for i (lengths_of m) ≡ true → Premises (walk_of i) (list_ids (width_in i) i.tips)
      → LibraryDelivered i words' m' n
  -- any accepted opening
  pub accepted-calls : LibraryOpens i m m' words words' numbers numbers' n → n ≡ open_number (Ok tt)
      → (cs : List LibraryCall) → LibraryCalls (files_of i) words' m' cs → LibraryAnyCalls i cs
  -- any refused opening, and calls with any files
  pub refused-calls : LibraryOpens i m m' words words' numbers numbers' n → (r : Refusal) → n ≡ number_of r
      → (f : Files) (cs : List LibraryCall) → LibraryCalls f words' m' cs → (k : ℕ) (c : LibraryCall) → CallIs cs k c → LibraryShut (width_of f.settings.kind) c

-- the same of a tested opening: what is accepted is delivered, with the lending of `LibraryCalls` as its only premise; a refused one is shut
pub record LibraryTestedDemand (i : Input) (m m' : Lent) (words words' numbers numbers' : List ℕ) (n : ℕ) : Type 0 where
  pub delivered : LibraryOpensTested i m m' words words' numbers numbers' n → n ≡ open_number (Ok tt) → LibraryDelivered i words' m' n
  pub refused-calls : LibraryOpensTested i m m' words words' numbers numbers' n → (r : Refusal) → n ≡ number_of r
      → (f : Files) (cs : List LibraryCall) → LibraryCalls f words' m' cs → (k : ℕ) (c : LibraryCall) → CallIs cs k c → LibraryShut (width_of f.settings.kind) c
