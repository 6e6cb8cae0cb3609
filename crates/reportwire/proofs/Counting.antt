-- A report by terms through the library: with no room nothing is done, else what is said is set down. Assumes nothing.
use mathlib.Core.Path.{◌≡◌, refl, ◌∙◌, subst}
use Prim.Native.Nat.{ℕ}
use mathlib.Core.Bool.{Bool, true, false}
use mathlib.Core.List.{List}
use Rattle.hash.proofs.Tests.{clash}
use Rattle.walk.specs.Opening.{Input}
use Rattle.traverse.specs.Contract.{Lent}
use Rattle.termsreport.specs.declared.TermsReport.{TermsReport}
use Rattle.termsreport.specs.Terms.{TermsSays}
use Rattle.reportwire.specs.Feed.{no_room_number}
use Rattle.reportwire.specs.Terms.{room_for_terms, PutsOutside, LibraryTerms}

pub no_room-counts : (i : Input) (months : List ℕ) (m : Lent) (counts numbers : List ℕ) {b : Bool} → b ≡ room_for_terms months counts numbers → b ≡ false
    → LibraryTerms i months m m counts counts numbers numbers no_room_number
no_room-counts i months m counts numbers r h = record { no_room = λ g. (refl, refl, refl, refl); made = λ g. clash (r ∙ g) h }

-- the report was lent the input i, which is j: the settings are those that the numbers stand for
pub counts-says : {i j : Input} {months : List ℕ} {m m' : Lent} {counts counts' numbers numbers' : List ℕ} {n : ℕ} {o : TermsReport} {b : Bool} → i ≡ j
    → b ≡ room_for_terms months counts numbers → b ≡ true → TermsSays i months m counts o m' counts' → PutsOutside o numbers numbers' n
    → LibraryTerms j months m m' counts counts' numbers numbers' n
counts-says {months = months} {m = m} {m' = m'} {counts = counts} {counts' = counts'} {o = o} e r t s p = record {
  no_room = λ g. clash t (r ∙ g);
  made = λ g. record { report = o; says = subst (λ (x : Input). TermsSays x months m counts o m' counts') e s; puts = p };
}
