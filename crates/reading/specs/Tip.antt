-- What the store says of a commit's seconds: a tip at the opening, a parent in a next call. Assumes nothing.
use Rattle.std.specs.Result.{result_unwrap_or}
use Rattle.std.specs.Prelude.{ℕ, ◌≡◌, Bool, true, false, List, pos, Err, None, Ok, Option, Result, Some}
use Rattle.date.specs.declared.Stamp.{Stamp}
use Rattle.hash.specs.Bytes.{Id}
use Rattle.date.specs.declared.Seconds.{Seconds}
use Rattle.object.specs.Header.{Header, seconds_of}
use Rattle.object.specs.Read.{seconds_read}
use Rattle.odb.specs.Lookup.{TriesFind}
use Rattle.reading.specs.declared.tip.TipError.{TipError}
use Rattle.reading.specs.declared.tip.TipError.TheVariants.{Missing, Unreadable}

-- a tip by its committer reading, and by its seconds alone
abbrev pub tip_stamp : Option Stamp → Result Seconds TipError
tip_stamp (Some s) = Ok s.seconds
tip_stamp None = Err Unreadable

abbrev pub tip_seconds : Option Seconds → Result Seconds TipError
tip_seconds (Some s) = Ok s
tip_seconds None = Err Unreadable

-- 7: "tip not in the book", 8: "its header not good through committer"
abbrev pub tip_of : Option Header → Result Seconds TipError
tip_of None = Err Missing
tip_of (Some h) = tip_seconds (seconds_read h.seconds)

-- a tip by what a lookup in the store gave, on any bytes: whether a body was found, and the body
abbrev pub tip_in : ℕ → Bool → List ℕ → Result Seconds TipError
tip_in w true b = tip_seconds (seconds_read (seconds_of w b))
tip_in w false b = Err Missing

-- what `read_tip` answers for the tip x: the lookup's answer, read
pub record ReadsTip (w : ℕ) (s : List ℕ) (x : Id) (r : Result Seconds TipError) : Type 0 where
  pub found : Bool
  pub body : List ℕ
  pub looked : TriesFind w s x found body
  pub is : r ≡ tip_in w found body

-- "from the book, else they are 0"
abbrev pub seconds_or0 : Result Seconds TipError → Seconds
seconds_or0 r = result_unwrap_or r (record { 0 = pos 0 })

-- what `seconds_for` answers for the commit x
pub record GivesSeconds (w : ℕ) (s : List ℕ) (x : Id) (r : Seconds) : Type 0 where
  pub read : Result Seconds TipError
  pub as_tip : ReadsTip w s x read
  pub is : r ≡ seconds_or0 read
