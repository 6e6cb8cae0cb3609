-- What the library's functions promise: an opening and a next call with the record as words, and the answer set down in lent buffers
-- (document 01: Opening, A next call). Assumes nothing.
use Rattle.std.specs.Prelude.{ℕ, ◌≡◌, true, false, List, [], ◌∷◌, length, ℤ}
use Rattle.hash.specs.Bytes.{width_of, set_down}
use Rattle.hash.specs.declared.Kind.{Kind}
use Rattle.walk.specs.declared.OpenAnswer.{OpenAnswer}
use Rattle.walk.specs.Opening.{Input, room_for, open_walk}
use Rattle.walk.specs.Given.{open_number, open_given}
use Rattle.fsck.specs.Names.{check_names, checked_number}
use Rattle.reach.specs.Tested.{tested_open}
use Rattle.opentested.specs.Contract.{TestedOpenSays}
use Rattle.traverse.specs.declared.Opened.{Opened}
use Rattle.traverse.specs.declared.Out.{Out}
use Rattle.traverse.specs.Contract.{Files, Lent, lengths_of, OpenSays, NextSays}
use Rattle.wire.specs.Words.{words_of, words_after, record_of, open_words, room_to_open, room_to_call}
use Rattle.wire.specs.Numbers.{PutsAnswer}

-- ---- no room

-- the result where a buffer of the library's own is too short: the record's words, or what an answer is set down in. Document 01 does not
-- name these, so it is none of its numbers, and no outcome's (`no_room-call`, `no_room_open` in proofs/NoRoom.antt)
abbrev pub no_room_number : ℕ
no_room_number = 101

-- ---- an opening

-- the answer of document 01's opening
abbrev pub open_answer : Input → Lent → OpenAnswer
open_answer i m = open_given (open_walk i (room_for i (lengths_of m)))

-- an opening that was tried: its answer set down, and the words of the record that it gives back, which read as that record again
pub record Tried (i : Input) (m m' : Lent) (words words' numbers numbers' : List ℕ) (n : ℕ) : Type 0 where
  pub out : Opened
  pub says : OpenSays i m out m'
  pub result : n ≡ open_number (open_answer i m).outcome
  pub numbers_are : numbers' ≡ set_down numbers 0 (open_words (open_answer i m))
  pub words_are : words' ≡ set_down words 0 (words_of out.record)
  pub record_is : record_of words' ≡ out.record

-- linenhatch_open, with its result n. Where the record or the numbers have no room that is said before all else, by a number that no
-- opening's outcome has, and nothing is altered
pub record LibraryOpens (i : Input) (m m' : Lent) (words words' numbers numbers' : List ℕ) (n : ℕ) : Type 0 where
  pub no_room : room_to_open words numbers ≡ false → (n ≡ no_room_number) × (m' ≡ m) × (words' ≡ words) × (numbers' ≡ numbers)
  pub tried : room_to_open words numbers ≡ true → Tried i m m' words words' numbers numbers' n

-- ---- a tested opening

-- the answer of card 1's opening
abbrev pub tested_answer : Input → Lent → OpenAnswer
tested_answer i m = open_given (tested_open i (room_for i (lengths_of m)))

-- the same of a tested opening
pub record TriedTested (i : Input) (m m' : Lent) (words words' numbers numbers' : List ℕ) (n : ℕ) : Type 0 where
  pub out : Opened
  pub says : TestedOpenSays i m out m'
  pub result : n ≡ open_number (tested_answer i m).outcome
  pub numbers_are : numbers' ≡ set_down numbers 0 (open_words (tested_answer i m))
  pub words_are : words' ≡ set_down words 0 (words_of out.record)
  pub record_is : record_of words' ≡ out.record

-- linenhatch_open_tested, with its result n
pub record LibraryOpensTested (i : Input) (m m' : Lent) (words words' numbers numbers' : List ℕ) (n : ℕ) : Type 0 where
  pub no_room : room_to_open words numbers ≡ false → (n ≡ no_room_number) × (m' ≡ m) × (words' ≡ words) × (numbers' ≡ numbers)
  pub tried : room_to_open words numbers ≡ true → TriedTested i m m' words words' numbers numbers' n

-- ---- a next call

-- a call that was made, with the result n: its answer set down, and the words of the record that it gives back; "12 alters nothing", so
-- there the words are as they were
pub record Made (f : Files) (m m' : Lent) (words words' id id' numbers numbers' : List ℕ) (seconds seconds' : List ℤ) (n : ℕ) : Type 0 where
  pub out : Out
  pub says : NextSays f (record_of words) m out m'
  pub answer : PutsAnswer (width_of f.settings.kind) out.answer id id' numbers numbers' seconds seconds' n
  pub words_are : words' ≡ words_after n out.record words
  pub record_is : record_of words' ≡ out.record

-- nothing is altered
pub record AsLent (m m' : Lent) (words words' id id' numbers numbers' : List ℕ) (seconds seconds' : List ℤ) : Type 0 where
  pub same_memory : m' ≡ m
  pub same-words : words' ≡ words
  pub same_id : id' ≡ id
  pub same_numbers : numbers' ≡ numbers
  pub same-seconds : seconds' ≡ seconds

-- linenhatch_next, with its result n. Where the record or the answer has no room that is said before all else, by a number that no call's
-- outcome has: no call is made, and nothing is altered
pub record LibraryNext (f : Files) (m m' : Lent) (words words' id id' numbers numbers' : List ℕ) (seconds seconds' : List ℤ) (n : ℕ) : Type 0 where
  pub no_room : room_to_call (width_of f.settings.kind) words id numbers seconds ≡ false → (n ≡ no_room_number) × AsLent m m' words words' id id' numbers numbers' seconds seconds'
  pub made : room_to_call (width_of f.settings.kind) words id numbers seconds ≡ true → Made f m m' words words' id id' numbers numbers' seconds seconds' n

-- ---- the check of names

-- linenhatch_check_names, with its result n. Where there is no room for a number that is said before all else, and nothing is altered
pub record LibraryChecks (kind : Kind) (store graph numbers numbers' : List ℕ) (n : ℕ) : Type 0 where
  pub no_room : length numbers ≡ 0 → (n ≡ no_room_number) × (numbers' ≡ numbers)
  pub result : (length numbers ≡ 0 → ⊥) → n ≡ checked_number (check_names kind store graph).outcome
  pub numbers_are : (length numbers ≡ 0 → ⊥) → numbers' ≡ set_down numbers 0 ((check_names kind store graph).entry ∷ [])
