-- The calendar at its edges: Februaries with and without a leap day, 1970's first second and 2099's last; a few lists of terms. Assumes nothing.
use mathlib.Core.Path.{◌≡◌, refl, ◌∙◌, ap}
use mathlib.Core.Bool.{true, false}
use mathlib.Core.List.{List, [], ◌∷◌}
use Prim.Native.Nat.{ℕ, ◌*◌, ◌-◌}
use lib.IntN.{pos, negsuc}
use Rattle.calendar.specs.Months.{leap, month_length, first_day, first_second, last_second, months_all}
use Rattle.calendar.specs.Terms.{good_terms, term_at, terms_all}

-- February 1970, 1972, 2000 and 2096; a year of the hundredth ones is none unless it is one of the four-hundredth: 2100 lies past the table
pub februaries : (month_length 1 ≡ 28) × (month_length 25 ≡ 29) × (month_length 361 ≡ 29) × (month_length 1513 ≡ 29) × (leap 2100 ≡ false)
unfolding months_all
februaries = (refl, refl, refl, refl, refl)

-- the table's first second, and its last, which is that of December 2099
pub edges : (first_second 0 ≡ 0) × (last_second 0 ≡ 2678399) × (last_second 1559 ≡ 4102444799)
unfolding months_all
edges = (refl, refl, refl)

-- two terms that touch, in January and in February and March 1970
pub touching : (good_terms (0 ∷ 0 ∷ 1 ∷ 2 ∷ []) ≡ true) × (term_at (0 ∷ 0 ∷ 1 ∷ 2 ∷ []) (pos 2678399) ≡ 0) × (term_at (0 ∷ 0 ∷ 1 ∷ 2 ∷ []) (pos 2678400) ≡ 1) × (term_at (0 ∷ 0 ∷ 1 ∷ 2 ∷ []) (negsuc 0) ≡ 2)
unfolding months_all terms_all
touching = (refl, refl, refl, refl)

-- no terms is a good list; a month shared, a term turned round, a month past the table and a month without its other are not
pub lists : (good_terms [] ≡ true) × (good_terms (0 ∷ 1 ∷ 1 ∷ 2 ∷ []) ≡ false) × (good_terms (3 ∷ 2 ∷ []) ≡ false) × (good_terms (0 ∷ 1560 ∷ []) ≡ false) × (good_terms (0 ∷ []) ≡ false)
unfolding months_all terms_all
lists = (refl, refl, refl, refl, refl)
