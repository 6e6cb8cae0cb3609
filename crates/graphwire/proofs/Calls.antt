-- A call through the library: without room nothing is done; else what is said of the ids of that width is set down. Assumes nothing.
use Rattle.std.specs.Prelude.{Result}
use Rattle.walk.specs.declared.Refusal.{Refusal}
use mathlib.Core.Path.{◌≡◌, refl, subst}
use Prim.Native.Nat.{ℕ}
use mathlib.Core.List.{List}
use lib.ListN.{length}
use Rattle.hash.specs.Bytes.{width_of}
use Rattle.hash.specs.declared.Kind.{Kind}
use Rattle.graphwrite.specs.Writing.{Measures, Writes}
use Rattle.graphwire.specs.Wire.{no_room_number, PutsLength, LibraryMeasures, LibraryWrites}

pub no_room_measures : (kind : Kind) (store levels numbers : List ℕ) → length numbers ≡ 0 → LibraryMeasures kind store levels levels numbers numbers no_room_number
no_room_measures kind store levels numbers h = record { no_room = λ e. (refl, refl, refl); made = λ f. absurd (f h) }

pub no_room_writes : (kind : Kind) (store levels out numbers : List ℕ) → length numbers ≡ 0 → LibraryWrites kind store levels levels out out numbers numbers no_room_number
no_room_writes kind store levels out numbers h = record { no_room = λ e. (refl, refl, refl, refl); made = λ f. absurd (f h) }

-- the call was made with the kind k, which is that of the width
pub made_measures : {k kind : Kind} {store levels levels' numbers numbers' : List ℕ} {n : ℕ} {r : Result ℕ Refusal} → k ≡ kind → (length numbers ≡ 0 → ⊥)
    → Measures (width_of k) store levels levels' r → PutsLength r numbers numbers' n → LibraryMeasures kind store levels levels' numbers numbers' n
made_measures {store = store} {levels = levels} {levels' = levels'} {r = r} e f s p = record {
  no_room = λ h. absurd (f h);
  made = λ g. record { written = r; says = subst (λ (x : Kind). Measures (width_of x) store levels levels' r) e s; puts = p };
}

pub made_writes : {k kind : Kind} {store levels levels' out out' numbers numbers' : List ℕ} {n : ℕ} {r : Result ℕ Refusal} → k ≡ kind → (length numbers ≡ 0 → ⊥)
    → Writes k store levels levels' out out' r → PutsLength r numbers numbers' n → LibraryWrites kind store levels levels' out out' numbers numbers' n
made_writes {store = store} {levels = levels} {levels' = levels'} {out = out} {out' = out'} {r = r} e f s p = record {
  no_room = λ h. absurd (f h);
  made = λ g. record { written = r; says = subst (λ (x : Kind). Writes x store levels levels' out out' r) e s; puts = p };
}
