-- The result tells what stands in the output: 0 is no refusal's number, and 101 neither. Assumes nothing.
use Rattle.std.specs.Prelude.{None, Option, Result, Some}
use mathlib.Core.Path.{◌≡◌, ◌∙◌, ap}
use Prim.Native.Nat.{ℕ}
use native.Mathlib.Omega.{arith}
use mathlib.Core.List.{List, [], ◌∷◌}
use lib.ListN.{length}
use lib.Dec.{eqb}
use borrow.Author.Tests.{eqb-true, eqb-false}
use Rattle.hash.specs.Bytes.{width_of, set_down}
use Rattle.hash.specs.declared.Kind.{Kind}
use Rattle.hash.proofs.Tests.{by_cases}
use Rattle.walk.specs.declared.Refusal.{Refusal}
use Rattle.walk.proofs.Outcomes.{refusal_number_between}
use Rattle.graphwrite.specs.Writing.{length_answer, output_after, write_refusal}
use Rattle.graphwire.specs.Wire.{written_number, bytes_of, PutsLength, Writing, LibraryWrites}
use Rattle.graphwire.specs.Seen.{WritingSeen}

of_answer : {kind : Kind} {store out out' numbers numbers' : List ℕ} {n : ℕ} (q : Option Refusal) (w : Result ℕ Refusal) → w ≡ length_answer (width_of kind) store q
    → out' ≡ output_after kind store out q → PutsLength w numbers numbers' n → WritingSeen kind store out out' numbers numbers' n
of_answer {numbers = numbers} None w e o p =
    let z = p.result ∙ ap written_number e in
    record {
      file = λ h. (o, p.numbers_are ∙ ap (λ (x : Result ℕ Refusal). set_down numbers 0 (bytes_of x ∷ [])) e);
      refused = λ r h. absurd (omega (arith, z, h, refusal_number_between r));
      no_room = λ h. absurd (omega (arith, z, h));
    }
of_answer {numbers = numbers} (Some x) w e o p =
    let z = p.result ∙ ap written_number e in
    record {
      file = λ h. absurd (omega (arith, z, h, refusal_number_between x));
      refused = λ r h. (o, p.numbers_are ∙ ap (λ (y : Result ℕ Refusal). set_down numbers 0 (bytes_of y ∷ [])) e);
      no_room = λ h. absurd (omega (arith, z, h, refusal_number_between x));
    }

of_call : {kind : Kind} {store levels levels' out out' numbers numbers' : List ℕ} {n : ℕ} → Writing kind store levels levels' out out' numbers numbers' n → WritingSeen kind store out out' numbers numbers' n
of_call {kind} {store} {levels} {out = out} m = of_answer (write_refusal (width_of kind) store (length levels) (length out)) m.written m.says.answer m.says.output m.puts

pub writing_seen : {kind : Kind} {store levels levels' out out' numbers numbers' : List ℕ} {n : ℕ} → LibraryWrites kind store levels levels' out out' numbers numbers' n
    → WritingSeen kind store out out' numbers numbers' n
writing_seen {numbers = numbers} l =
    by_cases (eqb (length numbers) 0)
    (λ t.
    let s = l.no_room (eqb-true (length numbers) 0 t) in
    record {
      file = λ h. absurd (omega (arith, s.0, h));
      refused = λ r h. absurd (omega (arith, s.0, h, refusal_number_between r));
      no_room = λ h. (s.2, s.3);
    })
    (λ t. of_call (l.made (eqb-false (length numbers) 0 t)))
