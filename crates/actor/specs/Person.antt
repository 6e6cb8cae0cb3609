-- Inside the lines that name a person (document 01, "Header lines": author and committer).
-- Assumes nothing.
use Rattle.std.specs.Prelude.{ℕ, suc, ◌+◌, ◌*◌, ◌-◌, Bool, true, false, cond, ◌&&◌, List, [], ◌∷◌, length, take, drop, get_or, eqb, leb, ltb, ℤ, pos, neg_ℤ, None, Option, Some}
use Rattle.hash.specs.Bytes.{if_some}

-- one place further on
abbrev pub further : Option ℕ → Option ℕ
further None = None
further (Some k) = Some (suc k)

-- the place of the first c
unfoldable pub first_of : ℕ → List ℕ → Option ℕ
first_of c [] = None
first_of c (x ∷ xs) = let r = further (first_of c xs) in cond (eqb x c) (Some 0) r

-- the place of the last c
unfoldable pub last_of : ℕ → List ℕ → Option ℕ
last_of c [] = None
last_of c (x ∷ xs) =
    let here : Option ℕ = cond (eqb x c) (Some 0) None in
    if_some (last_of c xs) here (λ k. Some (suc k))

-- "A line without its newline is bad": a line's bytes up to its newline, and what follows
unfoldable pub line : List ℕ → Option (List ℕ × List ℕ)
line b = if_some (first_of 10 b) None (λ k. Some (take k b, drop (suc k) b))

-- "`<` and later `>`"
unfoldable pub has_email : List ℕ → Bool
has_email l = if_some (first_of 60 l) false (λ k. if_some (first_of 62 (drop (suc k) l)) false (λ _. true))

-- a decimal digit
abbrev pub digit : ℕ → Bool
digit x = leb 48 x && leb x 57

-- "decimal digits, then a space or the newline", in a line without its newline: the value v goes on with at most n digits
unfoldable pub digits : ℕ → ℕ → List ℕ → Option ℕ
digits n v [] = Some v
digits n v (x ∷ xs) =
    let r = digits (n - 1) (v * 10 + (x - 48)) xs in
    let more : Option ℕ = cond (digit x && leb 1 n) r None in
    cond (eqb x 32) (Some v) more

-- "1 to 18 decimal digits"
unfoldable pub number : List ℕ → Option ℕ
number [] = None
number (x ∷ xs) = cond (digit x) (digits 18 0 (x ∷ xs)) None

-- "an optional `-`", and a number
abbrev pub plain : Option ℕ → Option ℤ
plain None = None
plain (Some v) = Some (pos v)

abbrev pub minus : Option ℕ → Option ℤ
minus None = None
minus (Some v) = Some (neg_ℤ (pos v))

unfoldable pub signed : List ℕ → Option ℤ
signed [] = None
signed (x ∷ xs) = cond (eqb x 45) (minus (number xs)) (plain (number (x ∷ xs)))

-- "one space", and a signed number
unfoldable pub spaced : List ℕ → Option ℤ
spaced [] = None
spaced (x ∷ xs) = cond (eqb x 32) (signed xs) None

-- "after the last `>`": the seconds of a committer line's bytes
unfoldable pub line_seconds : List ℕ → Option ℤ
line_seconds l = if_some (last_of 62 l) None (λ k. spaced (drop (suc k) l))

-- ---- the zone: "space, sign, four digits, minutes below 60, hours at most 14, then the line's end; anything else reads as none"

-- two digits of the four
abbrev pub two_digits : ℕ → ℕ → Option ℕ
two_digits x y = cond (digit x && digit y) (Some ((x - 48) * 10 + (y - 48))) None

-- "minutes below 60, hours at most 14": all minutes
abbrev pub clock : ℕ → ℕ → Option ℕ
clock h m = cond (leb h 14 && ltb m 60) (Some (h * 60 + m)) None

-- "four digits", after the sign
unfoldable pub clock_text : List ℕ → Option ℕ
clock_text l =
    if_some (two_digits (get_or l 1 0) (get_or l 2 0)) None
    (λ h. if_some (two_digits (get_or l 3 0) (get_or l 4 0)) None (λ m. clock h m))

-- "sign": `+` or `-`
abbrev pub by_sign : ℕ → ℕ → Option ℤ
by_sign s v =
    let back : Option ℤ = cond (eqb s 45) (Some (neg_ℤ (pos v))) None in
    cond (eqb s 43) (Some (pos v)) back

-- "sign, four digits, … then the line's end": the bytes after the space up to the line's end
unfoldable pub zone_text : List ℕ → Option ℤ
zone_text l =
    let read : Option ℤ = if_some (clock_text l) None (λ v. by_sign (get_or l 0 0) v) in
    cond (eqb (length l) 5) read None

-- "space": the zone stands after the first
unfoldable pub spaced_zone : List ℕ → Option ℤ
spaced_zone s = if_some (first_of 32 s) None (λ p. zone_text (drop (suc p) s))

-- the zone of a committer line's bytes: after the last `>`, its one space and the seconds
unfoldable pub line_zone : List ℕ → Option ℤ
line_zone l = if_some (last_of 62 l) None (λ k. spaced_zone (drop (suc (suc k)) l))

-- ---- the committer reading: "That number is the seconds, signed 64-bit." "The committer reading shall also give the zone": signed minutes, or none

pub record Stamped : Type 0 where
  pub seconds : ℤ
  pub zone : Option ℤ

-- without seconds there is no reading, whatever the zone: "which commits are readable doesn't move"
abbrev pub stamped : Option ℤ → Option ℤ → Option Stamped
stamped None z = None
stamped (Some s) z = Some (record { seconds = s; zone = z })

-- opens every definition of this file, for theorems that compute
unfoldable pub person_all : Unit {0}
unfolding first_of last_of line has_email digits number signed spaced line_seconds clock_text zone_text spaced_zone line_zone
person_all = tt
