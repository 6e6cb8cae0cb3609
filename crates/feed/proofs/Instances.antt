-- The readings at their boundaries, each computed. Assumes nothing.
use Rattle.std.specs.Prelude.{Err, None, Ok, Option, Result, Some}
use Rattle.feed.specs.declared.Feed.{Feed}
use Rattle.walk.specs.declared.Refusal.{Refusal}
use mathlib.Core.Path.{◌≡◌, refl}
use mathlib.Core.List.{List, [], ◌∷◌, ◌++◌}
use Prim.Native.Nat.{ℕ}
use lib.ListN.{replicate}
use Rattle.object.specs.Header.{header_all}
use Rattle.walk.specs.declared.Refusal.TheVariants.{ReadingTwice, ReadingUnreadable}
use Rattle.feed.specs.Feed.{cone_start, bed_start, feed_of, feed_all}

-- a message after one header line `t` and the empty line
abbrev said : List ℕ → Result Feed Refusal
said m = feed_of (116 ∷ 10 ∷ 10 ∷ m)

abbrev both : Option ℕ → Option ℕ → Result Feed Refusal
both c b = Ok (record { cone = c; bed = b })

-- the digits of 1,000,000,000
abbrev billion : List ℕ
billion = 49 ∷ replicate 9 48

pub record Boundaries : Type 0 where
  -- the most, and leading zeros up to 10 digits; a line that ends where the body does
  pub most : said (cone_start ++ (billion ++ (10 ∷ (bed_start ++ (replicate 9 48 ++ (55 ∷ [])))))) ≡ both (Some 1000000000) (Some 7)
  pub one_more : said (cone_start ++ (49 ∷ (replicate 8 48 ++ (49 ∷ 10 ∷ [])))) ≡ Err ReadingUnreadable
  pub eleven_digits : said (cone_start ++ (replicate 10 48 ++ (49 ∷ []))) ≡ Err ReadingUnreadable
  -- no digit, a carriage return, a space after the digits
  pub no_digit : said (bed_start ++ (10 ∷ [])) ≡ Err ReadingUnreadable
  pub return : said (bed_start ++ (49 ∷ 13 ∷ 10 ∷ [])) ≡ Err ReadingUnreadable
  pub space : said (bed_start ++ (49 ∷ 32 ∷ [])) ≡ Err ReadingUnreadable
  -- `Bed-feed:5` starts otherwise; so does ` Bed-feed: 5`
  pub no_space : said (66 ∷ 101 ∷ 100 ∷ 45 ∷ 102 ∷ 101 ∷ 101 ∷ 100 ∷ 58 ∷ 53 ∷ []) ≡ both None None
  pub indented : said (32 ∷ (bed_start ++ (53 ∷ []))) ≡ both None None
  -- wherever they stand in the message: after another empty line too
  pub later : said (120 ∷ 10 ∷ 10 ∷ (bed_start ++ (53 ∷ []))) ≡ both None (Some 5)
  -- before the empty line, or without one, there is no message; a body may begin with it
  pub in_header : feed_of (bed_start ++ (53 ∷ 10 ∷ 10 ∷ [])) ≡ both None None
  pub no-message : feed_of (116 ∷ 10 ∷ (bed_start ++ (53 ∷ 10 ∷ []))) ≡ both None None
  pub at_once : feed_of (10 ∷ (bed_start ++ (53 ∷ []))) ≡ both None (Some 5)
  pub no_bytes : feed_of [] ≡ both None None
  -- 21 goes before 22, also across the two starts and whether readable or not
  pub twice : said (cone_start ++ (49 ∷ 10 ∷ (cone_start ++ (49 ∷ 10 ∷ [])))) ≡ Err ReadingTwice
  pub twice-unreadable : said (cone_start ++ (10 ∷ (cone_start ++ []))) ≡ Err ReadingTwice
  pub twice-first : said (cone_start ++ (10 ∷ (bed_start ++ (49 ∷ 10 ∷ (bed_start ++ (49 ∷ [])))))) ≡ Err ReadingTwice

pub boundaries : Boundaries
unfolding header_all feed_all
boundaries = record {
  most = refl;
  one_more = refl;
  eleven_digits = refl;
  no_digit = refl;
  return = refl;
  space = refl;
  no_space = refl;
  indented = refl;
  later = refl;
  in_header = refl;
  no-message = refl;
  at_once = refl;
  no_bytes = refl;
  twice = refl;
  twice-unreadable = refl;
  twice-first = refl;
}
