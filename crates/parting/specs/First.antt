-- Card 11 (document 02): "Of all best common ancestors give the first: greatest book seconds, then the smallest id." Assumes nothing.
use Rattle.std.specs.Prelude.{◌≡◌, Bool, true, false, cond}
use Rattle.std.specs.Int.Signed.{lt_z}
use Rattle.hash.specs.Bytes.{Id, lt_id}
use Rattle.walk.specs.Lookup.{World, seconds_for}
use Rattle.parting.specs.Best.{Best}

-- x goes before y
unfoldable pub goes_first : World → Id → Id → Bool
goes_first w x y =
    let older : Bool = cond (lt_z (seconds_for w x) (seconds_for w y)) false (lt_id x y) in
    cond (lt_z (seconds_for w y) (seconds_for w x)) true older

-- a best one that goes before every other
pub record First (w : World) (a b : Id) (x : Id) : Type 0 where
  pub best : Best w a b x
  pub first : (y : Id) → Best w a b y → (y ≡ x → ⊥) → goes_first w x y ≡ true
