-- Every list of next calls through the library is a list of the walk's own calls: the words that a call is lent stand for the record that
-- was given back. And each of them set down in the caller's buffers what the walk's call answered, so the caller reads it there.
-- Assumes nothing.
use mathlib.Core.Path.{◌≡◌, refl, ◌∙◌, ap, subst}
use Prim.Native.Nat.{ℕ, zero, suc, ◌+◌, ◌≤◌}
use mathlib.Core.Bool.{Bool, true, ◌&&◌}
use mathlib.Core.List.{List, [], ◌∷◌, ◌++◌}
use native.Mathlib.Omega.{arith}
use lib.ListN.{length, take, drop, get_or}
use lib.Seq.{take-append-le, take_all}
use lib.Dec.{leb, ltb}
use lib.IntN.{ℤ}
use borrow.Author.Tests.{leb-true, ne_eqb}
use Rattle.hash.specs.Bytes.{Id, width_of}
use Rattle.object.specs.Ids.{id_in}
use Rattle.hash.proofs.Bytes.{set_down-fits}
use Rattle.hash.proofs.Tests.{and_first, and_second}
use Rattle.walk.specs.declared.Outcome.{Outcome}
use Rattle.walk.specs.declared.Outcome.TheVariants.{Commit, End, Refused}
use Rattle.walk.specs.Refusals.{number_of}
use Rattle.walk.specs.Given.{Given, outcome_number}
use Rattle.walk.proofs.Outcomes.{refusal_number_between}
use Rattle.state.specs.declared.Record.{Record}
use Rattle.traverse.specs.Contract.{Files, Lent, NextSays}
use Rattle.traverse.specs.Demand.{Call, Calls, no_more-calls, call, CallIs, here, after, answers_of, id_if, handed_out, refused_if, refused_commits}
use Rattle.wire.specs.Words.{record_words, record_of, words_after, answer_words, room_to_call}
use Rattle.wire.specs.Numbers.{PutsAnswer}
use Rattle.linenhatch.specs.Listing as library
use Rattle.linenhatch.specs.Listing.{LibraryCall, LibraryCalls, id_seen, admitted_seen, struck_seen, waiting_seen, id_if_commit, ids_seen, one_if_refused, refused_seen}

-- ---- the walk's calls

-- the call d of the walk stands behind the call c of the library
pub record Behind (width : ℕ) (c : LibraryCall) (d : Call) : Type 0 where
  pub same-lent : d.lent ≡ c.lent
  pub same_left : d.left ≡ c.left
  pub put : PutsAnswer width d.out.answer c.id c.id' c.numbers c.numbers' c.seconds c.seconds' c.result
  pub words_are : c.words' ≡ words_after c.result d.out.record c.words
  pub room : room_to_call width c.words c.id c.numbers c.seconds ≡ true

pub data Paired (width : ℕ) : List LibraryCall → List Call → Type 0 where
  no-pair : Paired width [] []
  pair : {c : LibraryCall} {d : Call} {cs : List LibraryCall} {ds : List Call} → Behind width c d → Paired width cs ds → Paired width (c ∷ cs) (d ∷ ds)

-- the calls of the walk behind a list of calls
pub record All (f : Files) (r : Record) (m : Lent) (cs : List LibraryCall) : Type 0 where
  pub list : List Call
  pub calls : Calls f r m list
  pub paired : Paired (width_of f.settings.kind) cs list

pub behind_all : {f : Files} {w : List ℕ} {m : Lent} {cs : List LibraryCall} → LibraryCalls f w m cs → All f (record_of w) m cs
behind_all library.no_more-calls = record { list = []; calls = no_more-calls; paired = no-pair }
behind_all {f} {w} {m} (library.call {c = c} room same untouched kept rest) =
    let made = kept.made room in
    let more = behind_all rest in
    let d : Call = record { lent = c.lent; out = made.out; left = c.left } in
    record {
      list = d ∷ more.list;
      calls =
          call untouched (subst (λ (r : Record). NextSays f r c.lent made.out c.left) same made.says)
          (subst (λ (r : Record). Calls f r c.left more.list) made.record_is more.calls);
      paired = pair (record { same-lent = refl; same_left = refl; put = made.answer; words_are = made.words_are; room = room }) more.paired;
    }

pub each : {width : ℕ} {cs : List LibraryCall} {ds : List Call} → Paired width cs ds → (k : ℕ) (c : LibraryCall) → CallIs cs k c → (d : Call) × CallIs ds k d × Behind width c d
each no-pair k c p = elim p [ ]
each (pair {d = d} b p) zero c here = (d, here, b)
each (pair b p) (suc k) c (after q) = let x = each p k c q in (x.0, after x.1, x.2)

pub as_many : {width : ℕ} {cs : List LibraryCall} {ds : List Call} → Paired width cs ds → length cs ≡ length ds
as_many no-pair = refl
as_many (pair b p) = ap suc (as_many p)

-- ---- room for an answer

module _ (width : ℕ) (words id numbers : List ℕ) (seconds : List ℤ) (h : room_to_call width words id numbers seconds ≡ true) where
  abbrev tests : Bool
  tests = leb record_words (length words) && leb width (length id)

  long-id : width ≤ length id
  unfolding room_to_call
  long-id =
      leb-true width (length id) (and_second (leb record_words (length words)) (leb width (length id)) (and_first tests (leb 8 (length numbers)) (and_first (tests && leb 8 (length numbers)) (leb 2 (length seconds)) h)))

  long-numbers : 8 ≤ length numbers
  unfolding room_to_call
  long-numbers = leb-true 8 (length numbers) (and_second tests (leb 8 (length numbers)) (and_first (tests && leb 8 (length numbers)) (leb 2 (length seconds)) h))

-- ---- what the caller reads

-- the answer a, in the buffers of the call c
pub record Sees (width : ℕ) (c : LibraryCall) (a : Given) : Type 0 where
  pub result : c.result ≡ outcome_number a.outcome
  pub id : id_seen width c ≡ id_in width a.info.id
  pub admitted : admitted_seen c ≡ a.admitted
  pub struck : struck_seen c ≡ a.struck
  pub waiting : waiting_seen c ≡ a.waiting

pub sees : {width : ℕ} {c : LibraryCall} {d : Call} → Behind width c d → length (id_in width d.out.answer.info.id) ≡ width → Sees width c d.out.answer
unfolding answer_words
sees {width} {c} {d} b e =
    let a = d.out.answer in
    let y : Id = id_in width a.info.id in
    let i = long-id width c.words c.id c.numbers c.seconds b.room in
    let n = long-numbers width c.words c.id c.numbers c.seconds b.room in
    let x = b.put.id-is ∙ set_down-fits c.id 0 y (omega arith) in
    let w = b.put.numbers_are ∙ set_down-fits c.numbers 0 (answer_words a) (omega arith) in
    record {
      result = b.put.result;
      id = ap (take width) x ∙ take-append-le width y (drop (0 + length y) c.id) (omega arith) ∙ take_all width y (omega arith);
      admitted = ap (λ (l : List ℕ). get_or l 0 0) w;
      struck = ap (λ (l : List ℕ). get_or l 1 0) w;
      waiting = ap (λ (l : List ℕ). get_or l 2 0) w;
    }

pub data AllSee (width : ℕ) : List LibraryCall → List Given → Type 0 where
  none_seen : AllSee width [] []
  seen : {c : LibraryCall} {a : Given} {cs : List LibraryCall} {as' : List Given} → Sees width c a → AllSee width cs as' → AllSee width (c ∷ cs) (a ∷ as')

pub all_see : {width : ℕ} {cs : List LibraryCall} {ds : List Call} → Paired width cs ds → ((k : ℕ) (d : Call) → CallIs ds k d → length (id_in width d.out.answer.info.id) ≡ width) → AllSee width cs (answers_of ds)
unfolding answers_of
all_see no-pair h = none_seen
all_see (pair {d = d} b p) h = seen (sees b (h zero d here)) (all_see p (λ k e q. h (suc k) e (after q)))

pub take_see : {width : ℕ} (n : ℕ) {cs : List LibraryCall} {as' : List Given} → AllSee width cs as' → AllSee width (take n cs) (take n as')
take_see zero s = none_seen
take_see (suc n) none_seen = none_seen
take_see (suc n) (seen s p) = seen s (take_see n p)

-- ---- counted from what the caller reads

id_if_lem : (o : Outcome) (x : Id) → id_if_commit (outcome_number o) x ≡ id_if o x
unfolding id_if_commit id_if
id_if_lem Commit x = refl
id_if_lem End x = refl
id_if_lem (Refused r) x = simp (ne_eqb (number_of r) 0 (λ e. omega (arith, refusal_number_between r)))

one_if : (o : Outcome) (left : Bool) → one_if_refused (outcome_number o) left ≡ refused_if o left
unfolding one_if_refused refused_if
one_if Commit left = refl
one_if End left = refl
one_if (Refused r) left = simp (ne_eqb (number_of r) 0 (λ e. omega (arith, refusal_number_between r)), ne_eqb (number_of r) 100 (λ e. omega (arith, refusal_number_between r)))

pub ids-same : {width : ℕ} {cs : List LibraryCall} {as' : List Given} → AllSee width cs as' → ids_seen width cs ≡ handed_out width as'
unfolding ids_seen handed_out
ids-same none_seen = refl
ids-same {width} (seen {c = c} {a = a} s p) = λ k. (ap (λ (n : ℕ). id_if_commit n (id_seen width c)) s.result ∙ id_if_lem a.outcome (id_seen width c) ∙ ap (id_if a.outcome) s.id) k ++ ids-same p k

pub refused-same : {width : ℕ} {cs : List LibraryCall} {as' : List Given} → AllSee width cs as' → refused_seen cs ≡ refused_commits as'
unfolding refused_seen refused_commits
refused-same none_seen = refl
refused-same (seen {c = c} {a = a} s p) = λ k.
    (ap (λ (n : ℕ). one_if_refused n (ltb (struck_seen c) (admitted_seen c))) s.result ∙ one_if a.outcome (ltb (struck_seen c) (admitted_seen c))
    ∙ (λ j. refused_if a.outcome (ltb (s.struck j) (s.admitted j)))) k + refused-same p k
