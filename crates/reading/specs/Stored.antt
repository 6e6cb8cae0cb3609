-- What the store alone says of a commit: its body. Assumes nothing.
use Rattle.std.specs.Prelude.{ℕ, ◌≡◌, List}
use Rattle.hash.specs.Bytes.{Id}
use Rattle.odb.specs.Lookup.{Locates, part_of}
use Rattle.odb.specs.declared.Located.{Located}

-- what `stored_body` answers for the commit x: the part of the store that the lookup's answer names, empty where it names none
pub record GivesBody (w : ℕ) (s : List ℕ) (x : Id) (b : List ℕ) : Type 0 where
  pub place : Located
  pub locates : Locates w s x place
  pub is : b ≡ part_of s place
