-- A next call through the library: with no room nothing is done, else its answer and the words of its record are set down. The number 12
-- stands for the refusal "closed" alone, which gives back the record that it was lent. Assumes nothing.
use mathlib.Core.Path.{◌≡◌, refl, sym, ◌∙◌, ap, subst}
use Prim.Native.Nat.{ℕ, ◌≤◌}
use mathlib.Core.Bool.{Bool, true, false, ◌&&◌}
use mathlib.Core.List.{List}
use lib.ListN.{length}
use lib.Dec.{eqb, leb}
use lib.IntN.{ℤ}
use borrow.Author.Tests.{leb-true, eqb-true}
use Rattle.hash.specs.Bytes.{width_of}
use Rattle.hash.proofs.Tests.{by_cases, clash, and_first}
use Rattle.walk.specs.declared.Refusal.TheVariants.{Closed}
use Rattle.walk.specs.declared.Outcome.TheVariants.{Refused}
use Rattle.walk.proofs.Outcomes.{outcome_number-own}
use Rattle.state.specs.declared.Record.{Record}
use Rattle.traverse.specs.declared.Out.{Out}
use Rattle.walk.specs.declared.Settings.{Settings}
use Rattle.traverse.specs.Contract.{Files, Lent, NextSays}
use Rattle.traverse.specs.Next.{files_lent}
use Rattle.inplace.specs.InPlace.{not_made_number, GoesInPlace}
use Rattle.wire.specs.Words.{record_words, record_of, room_to_call, PutsRecord}
use Rattle.wire.specs.Numbers.{PutsAnswer}
use Rattle.linenhatch.specs.Library.{no_room_number, Made, LibraryNext}

long-words : (width : ℕ) (words id numbers : List ℕ) (seconds : List ℤ) → room_to_call width words id numbers seconds ≡ true → record_words ≤ length words
unfolding room_to_call
long-words width words id numbers seconds h =
    let a = leb record_words (length words) in
    let b = leb width (length id) in
    let d = leb 8 (length numbers) in
    leb-true record_words (length words) (and_first a b (and_first (a && b) d (and_first (a && b && d) (leb 2 (length seconds)) h)))

pub no_room-says : (f : Files) (m : Lent) (words id numbers : List ℕ) (seconds : List ℤ) {b : Bool} → b ≡ room_to_call (width_of f.settings.kind) words id numbers seconds → b ≡ false
    → LibraryNext f m m words words id id numbers numbers seconds seconds no_room_number
no_room-says f m words id numbers seconds r h = record {
  no_room = λ g. (refl, record { same_memory = refl; same-words = refl; same_id = refl; same_numbers = refl; same-seconds = refl });
  made = λ g. clash (r ∙ g) h;
}

-- the record that the words stand for after the call is the one that it gave back
given_back : {f : Files} {m m' : Lent} {words words' id id' numbers numbers' : List ℕ} {seconds seconds' : List ℤ} {n : ℕ} {o : Out} → record_words ≤ length words → NextSays f (record_of words) m o m'
    → PutsAnswer (width_of f.settings.kind) o.answer id id' numbers numbers' seconds seconds' n → PutsRecord n o.record words words' → record_of words' ≡ o.record
given_back {words = words} {n = n} {o = o} l s a w =
    by_cases (eqb n 12)
    (λ t.
    let same = w.is ∙ rw t in
    let c = outcome_number-own o.answer.outcome (Refused Closed) (sym a.result ∙ eqb-true n 12 t) in
    ap record_of same ∙ sym (s.twelve c).0)
    (λ t. w.back t l)

made_as : {f : Files} {m m' : Lent} {words words' id id' numbers numbers' : List ℕ} {seconds seconds' : List ℤ} {n : ℕ} {o : Out} → record_words ≤ length words → NextSays f (record_of words) m o m'
    → PutsAnswer (width_of f.settings.kind) o.answer id id' numbers numbers' seconds seconds' n → PutsRecord n o.record words words'
    → Made f m m' words words' id id' numbers numbers' seconds seconds' n
made_as {o = o} l s a w = record { out = o; says = s; answer = a; words_are = w.is; record_is = given_back l s a w }

-- the call was lent the record r, which the words stand for
pub made-says : {f : Files} {r : Record} {m m' : Lent} {words words' id id' numbers numbers' : List ℕ} {seconds seconds' : List ℤ} {n : ℕ} {o : Out} {b : Bool} → r ≡ record_of words
    → b ≡ room_to_call (width_of f.settings.kind) words id numbers seconds → b ≡ true → NextSays f r m o m' → PutsAnswer (width_of f.settings.kind) o.answer id id' numbers numbers' seconds seconds' n → PutsRecord n o.record words words'
    → LibraryNext f m m' words words' id id' numbers numbers' seconds seconds' n
made-says {f = f} {m = m} {m' = m'} {words = words} {id = id} {numbers = numbers} {seconds = seconds} {o = o} d q t s a w = record {
  no_room = λ g. clash t (q ∙ g);
  made = λ g.
      made_as (long-words (width_of f.settings.kind) words id numbers seconds g)
      (subst (λ (y : Record). NextSays f y m o m') d s) a w;
}

-- files, lists and settings that are the same
pub next_of : {f f' : Files} {m m' : Lent} {words words' id id' numbers numbers' : List ℕ} {seconds seconds' : List ℤ} {n : ℕ} → f ≡ f'
    → LibraryNext f m m' words words' id id' numbers numbers' seconds seconds' n → LibraryNext f' m m' words words' id id' numbers numbers' seconds seconds' n
next_of {m = m} {m' = m'} {words = words} {words' = words'} {id = id} {id' = id'} {numbers = numbers} {numbers' = numbers'} {seconds = seconds} {seconds' = seconds'} {n = n} =
    subst (λ (y : Files). LibraryNext y m m' words words' id id' numbers numbers' seconds seconds' n)

-- a call that was made in place
pub made_in_place : {store graph hidden excluded : List ℕ} {settings : Settings} {m m' : Lent} {words words' id id' numbers numbers' : List ℕ} {seconds seconds' : List ℤ} {n : ℕ} {b : Bool}
    → GoesInPlace store graph excluded settings m m' words words' id id' numbers numbers' seconds seconds' n → (n ≡ not_made_number → ⊥) → b ≡ room_to_call (width_of settings.kind) words id numbers seconds → b ≡ true
    → LibraryNext (files_lent store graph hidden excluded settings) m m' words words' id id' numbers numbers' seconds seconds' n
made_in_place {hidden = hidden} g e q t = let o = g.made e hidden in made-says refl q t o.1 o.2 o.3

-- a call in place that was not made altered nothing, so what comes of the same call by the record comes of what was lent
pub made_after : {f : Files} {r : Record} {m m₁ m' : Lent} {words words₁ words' id id₁ id' numbers numbers₁ numbers' : List ℕ} {seconds seconds₁ seconds' : List ℤ} {n : ℕ} {o : Out} {b : Bool}
    → (m₁ ≡ m) × (words₁ ≡ words) × (id₁ ≡ id) × (numbers₁ ≡ numbers) × (seconds₁ ≡ seconds) → r ≡ record_of words₁ → b ≡ room_to_call (width_of f.settings.kind) words id numbers seconds → b ≡ true
    → NextSays f r m₁ o m' → PutsAnswer (width_of f.settings.kind) o.answer id₁ id' numbers₁ numbers' seconds₁ seconds' n → PutsRecord n o.record words₁ words'
    → LibraryNext f m m' words words' id id' numbers numbers' seconds seconds' n
made_after e d q t s a w = made-says (d ∙ ap record_of e.1) q t (rw e.0 at s) (rw (e.2, e.3, e.4) at a) (rw e.1 at w)
