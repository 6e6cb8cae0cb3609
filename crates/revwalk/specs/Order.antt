-- The order in which slots are handed out, and lists of slots in an order.
use Rattle.std.specs.Prelude.{◌≡◌, ◌⊎◌, List, [], ◌∷◌, ◌++◌, Bool, true, false, cond, ℕ, zero, suc, ◌+◌, get_or, ltb, ℤ, pos}
use Rattle.std.specs.Int.Signed.{lt_z}

-- what stands at k of the lent memory, 0 past its end
abbrev pub at : List ℕ → ℕ → ℕ
at line k = get_or line k 0

-- the seconds of a slot, 0 where there is no such slot
abbrev pub seconds_of : List ℤ → ℕ → ℤ
seconds_of times s = get_or times s (pos 0)

-- the number that a slot was given when it was queued
abbrev pub seq_of : List ℕ → ℕ → ℕ → ℕ
seq_of line cap s = at line (cap + s)

-- whether seconds u are handed out strictly before seconds v: newest first, or oldest first
abbrev pub sooner : Bool → ℤ → ℤ → Bool
sooner newest u v = cond newest (lt_z v u) (lt_z u v)

-- whether slot a is handed out strictly before slot b by its seconds alone
abbrev pub ahead : Bool → List ℤ → ℕ → ℕ → Bool
ahead newest times a b = sooner newest (seconds_of times a) (seconds_of times b)

-- whether slot a is handed out before slot b: by its seconds, and among equal seconds by who was queued first
unfoldable pub goes : Bool → List ℤ → ℕ → List ℕ → ℕ → ℕ → Bool
goes newest times cap line a b =
    cond (ahead newest times a b) true (cond (ahead newest times b a) false (ltb (seq_of line cap a) (seq_of line cap b)))

-- the order in which nothing goes before anything
abbrev pub never : ℕ → ℕ → Bool
never a b = false

-- x before the first of the list that it goes strictly before, so after its equals
unfoldable pub insert_by : (ℕ → ℕ → Bool) → ℕ → List ℕ → List ℕ
insert_by lt x [] = x ∷ []
insert_by lt x (y ∷ ys) = cond (lt x y) (x ∷ y ∷ ys) (y ∷ insert_by lt x ys)

-- f 0, .., f (n - 1), each put in by insertBy
unfoldable pub sort_at : (ℕ → ℕ → Bool) → (ℕ → ℕ) → ℕ → List ℕ
sort_at lt f zero = []
sort_at lt f (suc n) = insert_by lt (f n) (sort_at lt f n)

-- f 0, .., f (n - 1) as they stand
unfoldable pub listed : (ℕ → ℕ) → ℕ → List ℕ
listed f zero = []
listed f (suc n) = listed f n ++ (f n ∷ [])

unfoldable pub In : ℕ → List ℕ → Type 0
In x [] = ⊥
In x (y ∷ ys) = (x ≡ y) ⊎ In x ys

-- none stands twice
unfoldable pub Once : List ℕ → Type 0
Once [] = Unit {0}
Once (y ∷ ys) = (In y ys → ⊥) × Once ys
