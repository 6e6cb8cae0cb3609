-- An opening through the library: with no room nothing is done, else its answer and the words of its record are set down. Assumes nothing.
use mathlib.Core.Path.{◌≡◌, refl, ◌∙◌, ap, subst}
use Prim.Native.Nat.{ℕ, ◌≤◌}
use mathlib.Core.Bool.{Bool, true, false}
use mathlib.Core.List.{List}
use lib.ListN.{length}
use lib.Dec.{leb}
use borrow.Author.Tests.{leb-true}
use Rattle.hash.specs.Bytes.{set_down}
use Rattle.hash.proofs.Tests.{clash, and_first}
use Rattle.walk.specs.declared.OpenAnswer.{OpenAnswer}
use Rattle.walk.specs.Opening.{Input}
use Rattle.walk.specs.Given.{open_number}
use Rattle.traverse.specs.declared.Opened.{Opened}
use Rattle.traverse.specs.Contract.{Lent, OpenSays}
use Rattle.wire.specs.Words.{record_words, open_words, room_to_open, Encodes}
use Rattle.wire.specs.Numbers.{PutsOpenAnswer}
use Rattle.opentested.specs.Contract.{TestedOpenSays}
use Rattle.linenhatch.specs.Library.{no_room_number, Tried, LibraryOpens, TriedTested, LibraryOpensTested}

long-words : (words numbers : List ℕ) → room_to_open words numbers ≡ true → record_words ≤ length words
unfolding room_to_open
long-words words numbers h = leb-true record_words (length words) (and_first (leb record_words (length words)) (leb 3 (length numbers)) h)

pub no_room-says : (i : Input) (m : Lent) (words numbers : List ℕ) {b : Bool} → b ≡ room_to_open words numbers → b ≡ false → LibraryOpens i m m words words numbers numbers no_room_number
no_room-says i m words numbers r h = record { no_room = λ g. (refl, refl, refl, refl); tried = λ g. clash (r ∙ g) h }

tried_as : {i : Input} {m m' : Lent} {words words' numbers numbers' : List ℕ} {n : ℕ} {o : Opened} → record_words ≤ length words → OpenSays i m o m'
    → Encodes o.record words words' → PutsOpenAnswer o.answer numbers numbers' n → Tried i m m' words words' numbers numbers' n
tried_as {numbers = numbers} {o = o} l s w a = record {
  out = o;
  says = s;
  result = a.result ∙ ap (λ (x : OpenAnswer). open_number x.outcome) s.answer;
  numbers_are = a.numbers_are ∙ ap (λ (x : OpenAnswer). set_down numbers 0 (open_words x)) s.answer;
  words_are = w.is;
  record_is = w.back l;
}

-- the opening was lent the input i, which is j: the settings are those that the numbers stand for
pub tried-says : {i j : Input} {m m' : Lent} {words words' numbers numbers' : List ℕ} {n : ℕ} {o : Opened} {b : Bool} → i ≡ j → b ≡ room_to_open words numbers → b ≡ true → OpenSays i m o m'
    → Encodes o.record words words' → PutsOpenAnswer o.answer numbers numbers' n → LibraryOpens j m m' words words' numbers numbers' n
tried-says {m = m} {m' = m'} {words = words} {numbers = numbers} {o = o} e r t s w a = record {
  no_room = λ g. clash t (r ∙ g);
  tried = λ g. tried_as (long-words words numbers g) (subst (λ (x : Input). OpenSays x m o m') e s) w a;
}

-- ---- a tested opening

pub no_room_tested : (i : Input) (m : Lent) (words numbers : List ℕ) {b : Bool} → b ≡ room_to_open words numbers → b ≡ false → LibraryOpensTested i m m words words numbers numbers no_room_number
no_room_tested i m words numbers r h = record { no_room = λ g. (refl, refl, refl, refl); tried = λ g. clash (r ∙ g) h }

tried_tested_as : {i : Input} {m m' : Lent} {words words' numbers numbers' : List ℕ} {n : ℕ} {o : Opened} → record_words ≤ length words → TestedOpenSays i m o m'
    → Encodes o.record words words' → PutsOpenAnswer o.answer numbers numbers' n → TriedTested i m m' words words' numbers numbers' n
tried_tested_as {numbers = numbers} {o = o} l s w a = record {
  out = o;
  says = s;
  result = a.result ∙ ap (λ (x : OpenAnswer). open_number x.outcome) s.answer;
  numbers_are = a.numbers_are ∙ ap (λ (x : OpenAnswer). set_down numbers 0 (open_words x)) s.answer;
  words_are = w.is;
  record_is = w.back l;
}

pub tried_tested : {i j : Input} {m m' : Lent} {words words' numbers numbers' : List ℕ} {n : ℕ} {o : Opened} {b : Bool} → i ≡ j → b ≡ room_to_open words numbers → b ≡ true → TestedOpenSays i m o m'
    → Encodes o.record words words' → PutsOpenAnswer o.answer numbers numbers' n → LibraryOpensTested j m m' words words' numbers numbers' n
tried_tested {m = m} {m' = m'} {words = words} {numbers = numbers} {o = o} e r t s w a = record {
  no_room = λ g. clash t (r ∙ g);
  tried = λ g. tried_tested_as (long-words words numbers g) (subst (λ (x : Input). TestedOpenSays x m o m') e s) w a;
}
