-- Where a report by terms counts a commit (document 02, card 9), by its seconds in the store s. Assumes nothing.
use Rattle.std.specs.Prelude.{ℕ, ◌/◌, ◌<◌, ◌≡◌, true, List, [], length, ℤ, pos, negsuc, None, Some}
use Rattle.hash.specs.Bytes.{Id}
use Rattle.calendar.specs.Months.{last_second}
use Rattle.calendar.specs.Terms.{good_terms, has_seconds}
use Rattle.walk.specs.Lookup.{world_of, store_seconds}
use Rattle.tally.specs.Terms.{term_of}

pub record Places (width : ℕ) (terms s : List ℕ) : Type 0 where
  -- in the term that has its seconds
  pub in_term : good_terms terms ≡ true → (x : Id) (t : ℤ) (k : ℕ) → store_seconds (world_of width s []) x ≡ Some t → k < length terms / 2 → has_seconds terms k t ≡ true → term_of width terms s x ≡ Some k
  -- "Runs before 1970"
  pub before_1970 : good_terms terms ≡ true → (x : Id) (n : ℕ) → store_seconds (world_of width s []) x ≡ Some (negsuc n) → term_of width terms s x ≡ None
  -- "or after 2099", past the last second of its December
  pub after_2099 : good_terms terms ≡ true → (x : Id) (n : ℕ) → store_seconds (world_of width s []) x ≡ Some (pos n) → last_second 1559 < n → term_of width terms s x ≡ None
  -- "and runs without readable seconds in the book, are outside"
  pub unread : (x : Id) → store_seconds (world_of width s []) x ≡ None → term_of width terms s x ≡ None
