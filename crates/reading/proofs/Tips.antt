-- Laws of seconds that are read from the store alone: a header's seconds are what `stamp_only` reads, and in a good store a lookup finds the
-- header that the walk's world has. Assumes nothing.
use Rattle.std.specs.Prelude.{Err, None, Option, Result, Some}
use mathlib.Core.Path.{◌≡◌, refl, sym, ◌∙◌, ap}
use Prim.Native.Nat.{ℕ}
use mathlib.Core.Bool.{Bool, true, false}
use mathlib.Core.List.{List}
use native.Mathlib.Omega.{arith}
use lib.IntN.{ℤ, pos}
use Rattle.hash.specs.Bytes.{Id, if_some}
use Rattle.date.specs.declared.Seconds.{Seconds}
use Rattle.date.specs.declared.Stamp.{Stamp}
use Rattle.object.specs.Header.{Header, header, Stamped, stamp_of, seconds_in, zone_in, seconds_of, zone_of}
use Rattle.object.specs.Read.{seconds_read, stamp_given, stamp_read}
use Rattle.object.proofs.Stamps.{header_stamp}
use Rattle.odb.specs.Store.{store_is_ok}
use Rattle.odb.specs.Lookup.{TriesFind}
use Rattle.walk.specs.Lookup.{world_of, store_seconds, seconds_for}
use Rattle.reading.specs.Tip.{tip_stamp, tip_seconds, tip_of, tip_in, ReadsTip, seconds_or0, GivesSeconds}
use Rattle.reading.specs.declared.tip.TipError.{TipError}
use Rattle.reading.specs.declared.tip.TipError.TheVariants.{Missing}
use Rattle.reading.proofs.World.{tried-body, tried-none}

pub header-seconds : (w : ℕ) (b : List ℕ) → (header w b).seconds ≡ seconds_of w b
header-seconds w b = (header_stamp w b).0

-- a tip by its committer reading is the tip by its seconds: the zone is not looked at
tip_stamp_lem : (o : Option Stamped) → tip_stamp (stamp_read o) ≡ tip_seconds (seconds_read (seconds_in o))
tip_stamp_lem None = refl
tip_stamp_lem (Some s) = refl

-- the store has a body under x, and its committer line was read
pub tip_body : {w : ℕ} {s : List ℕ} {x : Id} {f : Bool} {b : List ℕ} {q : Option Stamp} {r : Result Seconds TipError} → TriesFind w s x f b → f ≡ true → q ≡ stamp_read (stamp_of w b) → r ≡ tip_stamp q → ReadsTip w s x r
unfolding seconds_of
tip_body {w} {f = f} {b = b} l p e k = record { found = f; body = b; looked = l; is = k ∙ ap tip_stamp e ∙ tip_stamp_lem (stamp_of w b) ∙ ap (λ (t : Bool). tip_in w t b) (sym p) }

-- ---- the zone: the header's is the committer reading's, so what was read of that tells it

zone-good : (o : Option Stamped) (s : Stamp) → stamp_read o ≡ Some s → s.zone ≡ zone_in o
zone-good None s e = let z : ◌≡◌ {A = ℕ} 0 1 = cc in absurd (omega arith)
zone-good (Some v) s e = let z : stamp_given v ≡ s = cc in ap (λ (t : Stamp). t.zone) (sym z)

zone-bad : (o : Option Stamped) → stamp_read o ≡ None → None ≡ zone_in o
zone-bad None e = refl
zone-bad (Some v) e = let z : ◌≡◌ {A = ℕ} 0 1 = cc in absurd (omega arith)

module _ (w : ℕ) (b : List ℕ) {q : Option Stamp} (read : q ≡ stamp_read (stamp_of w b)) where
  header-zone : zone_of w b ≡ (header w b).zone
  header-zone = sym (header_stamp w b).1

  pub zone-told : (s : Stamp) → q ≡ Some s → s.zone ≡ (header w b).zone
  unfolding zone_of
  zone-told s e = zone-good (stamp_of w b) s (sym read ∙ e) ∙ header-zone

  pub no-zone-told : q ≡ None → None ≡ (header w b).zone
  unfolding zone_of
  no-zone-told e = zone-bad (stamp_of w b) (sym read ∙ e) ∙ header-zone

pub tip_missing : {w : ℕ} {s : List ℕ} {x : Id} {f : Bool} {b : List ℕ} → TriesFind w s x f b → f ≡ false → ReadsTip w s x (Err Missing)
tip_missing {w} {f = f} {b = b} l p = record { found = f; body = b; looked = l; is = ap (λ (t : Bool). tip_in w t b) (sym p) }

pub seconds-read : {w : ℕ} {s : List ℕ} {x : Id} {r : Result Seconds TipError} {t : Seconds} → ReadsTip w s x r → t ≡ seconds_or0 r → GivesSeconds w s x t
seconds-read {w} {s} {x} {r} k e = record { read = r; as_tip = k; is = e }

-- ---- in a good store

-- what the store has under x decides
pub tip_right : {w : ℕ} {s : List ℕ} {x : Id} {r : Result Seconds TipError} → ReadsTip w s x r → store_is_ok w s ≡ true → (g : List ℕ) → r ≡ tip_of ((world_of w s g).store x)
tip_right {w} {s} {x} {r} k ok g = go k.found k.looked k.is
  where
    go : (f : Bool) → TriesFind w s x f k.body → r ≡ tip_in w f k.body → r ≡ tip_of ((world_of w s g).store x)
    go true l i = i ∙ ap (λ (t : Option ℤ). tip_seconds (seconds_read t)) (sym (header-seconds w k.body)) ∙ ap tip_of (sym (tried-body g l refl ok))
    go false l i = i ∙ ap tip_of (sym (tried-none g l refl ok))

-- the seconds of a header, 0 where there are none
seconds_value_lem : (o : Option Header) → (seconds_or0 (tip_of o)).0 ≡ if_some (if_some o None (λ h. h.seconds)) (pos 0) (λ t. t)
seconds_value_lem None = refl
seconds_value_lem (Some h) = go h.seconds
  where
    go : (u : Option ℤ) → (seconds_or0 (tip_seconds (seconds_read u))).0 ≡ if_some u (pos 0) (λ t. t)
    go None = refl
    go (Some v) = refl

pub seconds-right : {w : ℕ} {s : List ℕ} {x : Id} {r : Seconds} → GivesSeconds w s x r → store_is_ok w s ≡ true → (g : List ℕ) → r.0 ≡ seconds_for (world_of w s g) x
unfolding seconds_for store_seconds
seconds-right {w} {s} {x} k ok g = ap (λ (t : Seconds). t.0) (k.is ∙ ap seconds_or0 (tip_right k.as_tip ok g)) ∙ seconds_value_lem ((world_of w s g).store x)
