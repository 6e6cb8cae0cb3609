-- A tested opening through the library: one that is accepted is an opening that was accepted and whose premises hold, so the third demand for
-- callers of the library is met; one that is refused gives back a closed record. Assumes nothing.
use Rattle.std.specs.Prelude.{Err, Ok, Result}
use mathlib.Core.Path.{◌≡◌, sym, ◌∙◌, ap, subst}
use Prim.Native.Nat.{ℕ}
use mathlib.Core.Bool.{true}
use mathlib.Core.List.{List}
use Rattle.hash.specs.Bytes.{width_of, set_down}
use Rattle.hash.proofs.Tests.{by_cases, clash}
use Rattle.walk.specs.declared.Refusal.{Refusal}
use Rattle.walk.specs.declared.OpenAnswer.{OpenAnswer}
use Rattle.walk.specs.Refusals.{number_of}
use Rattle.walk.specs.Opening.{Input}
use Rattle.walk.specs.Given.{open_number}
use Rattle.walk.proofs.Outcomes.{open_number-own}
use Rattle.state.specs.declared.Record.{Record}
use Rattle.traverse.specs.Contract.{Files, Lent, OpenSays}
use Rattle.traverse.specs.Demand.{Calls, CallIs}
use Rattle.traverse.proofs.Calls.{calls-shut}
use Rattle.opentested.proofs.Listing.{as-opened, tested-premises, refused-closed}
use Rattle.wire.specs.Words.{open_words, room_to_open}
use Rattle.linenhatch.specs.Library.{open_answer, Tried, tested_answer, TriedTested, LibraryOpensTested}
use Rattle.linenhatch.specs.Listing.{LibraryCall, LibraryCalls, LibraryShut, LibraryTestedDemand}
use Rattle.linenhatch.proofs.NoRoom.{no_room_open}
use Rattle.linenhatch.proofs.Behind.{behind_all, each}
use Rattle.linenhatch.proofs.Listing.{library_demand, shut-is}

module _ {i : Input} {m m' : Lent} {words words' numbers numbers' : List ℕ} {n : ℕ} (t : TriedTested i m m' words words' numbers numbers' n) where
  -- the outcome with the result's number
  outcome-of : (o : Result (Unit {0}) Refusal) → n ≡ open_number o → t.out.answer.outcome ≡ o
  outcome-of o k = ap (λ (x : OpenAnswer). x.outcome) t.says.answer ∙ open_number-own (tested_answer i m).outcome o (sym t.result ∙ k)

  -- accepted, it was an opening
  as-tried : n ≡ open_number (Ok tt) → Tried i m m' words words' numbers numbers' n
  as-tried k =
      let s : OpenSays i m t.out m' = as-opened t.says (outcome-of (Ok tt) k) in
      let same : tested_answer i m ≡ open_answer i m = sym t.says.answer ∙ s.answer in
      record {
        out = t.out;
        says = s;
        result = t.result ∙ ap (λ (x : OpenAnswer). open_number x.outcome) same;
        numbers_are = t.numbers_are ∙ ap (λ (x : OpenAnswer). set_down numbers 0 (open_words x)) same;
        words_are = t.words_are;
        record_is = t.record_is;
      }

  shut : (r : Refusal) → n ≡ number_of r → (f : Files) (cs : List LibraryCall) → LibraryCalls f words' m' cs → (k : ℕ) (c : LibraryCall) → CallIs cs k c → LibraryShut (width_of f.settings.kind) c
  shut r e f cs h k c p =
      let x = each (behind_all h).paired k c p in
      let calls = subst (λ (q : Record). Calls f q m' (behind_all h).list) t.record_is (behind_all h).calls in
      shut-is x.2 (calls-shut f t.out.record m' (behind_all h).list (refused-closed t.says r (outcome-of (Err r) e)) calls k x.0 x.1)

-- an opening whose result is an outcome's number had room for its record and numbers
was-tried : {i : Input} {m m' : Lent} {words words' numbers numbers' : List ℕ} {n : ℕ} → LibraryOpensTested i m m' words words' numbers numbers' n → (o : Result (Unit {0}) Refusal) → n ≡ open_number o
    → (room_to_open words numbers ≡ true) × TriedTested i m m' words words' numbers numbers' n
was-tried {words = words} {numbers = numbers} s o e = by_cases (room_to_open words numbers) (λ r. (r, s.tried r)) (λ r. absurd (no_room_open o (sym e ∙ (s.no_room r).0)))

pub tested_demand : (i : Input) (m m' : Lent) (words words' numbers numbers' : List ℕ) (n : ℕ) → LibraryTestedDemand i m m' words words' numbers numbers' n
tested_demand i m m' words words' numbers numbers' n = record {
  delivered = λ s e.
      let t = was-tried s (Ok tt) e in
      let p = tested-premises t.1.says (outcome-of t.1 (Ok tt) e) in
      (library_demand i m m' words words' numbers numbers' n).demanded (record { no_room = λ g. clash t.0 g; tried = λ g. as-tried t.1 e }) t.0 p.0 p.1 p.2;
  refused-calls = λ s r e. shut (was-tried s (Err r) e).1 r e;
}
