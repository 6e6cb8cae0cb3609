-- What is set down stays inside the ids that are counted, and the answer has one of document 01's shapes, on any bytes: an id of at most its
-- kind's bytes changes nothing past its own place, and at most 256 parents come out of either file. Assumes nothing.
use Rattle.std.specs.Prelude.{None, Option, ℤ}
use Rattle.date.specs.declared.Seconds.{Seconds}
use mathlib.Core.Path.{◌≡◌, refl}
use Prim.Native.Nat.{ℕ, ◌≤◌}
use mathlib.Core.List.{List}
use native.Mathlib.Omega.{arith}
use lib.ListN.{length}
use Rattle.hash.specs.Bytes.{Id}
use Rattle.object.specs.Header.{most}
use Rattle.walk.specs.declared.Outcome.TheVariants.{End, Refused}
use Rattle.walk.specs.declared.Refusal.{Refusal}
use Rattle.walk.specs.declared.Refusal.TheVariants.{CommitNotFound, CommitUnreadable, TooManyParents}
use Rattle.walk.specs.AnyInput.{OfCall}
use Rattle.walk.specs.Given.{no_id}
use Rattle.reading.specs.declared.body.BodyEnd.{BodyEnd}
use Rattle.reading.specs.declared.body.BodyEnd.TheVariants.{Whole, Unreadable, Crowded}
use Rattle.state.specs.declared.Record.{Record}
use Rattle.links.specs.Visits.{Past}
use Rattle.visit.specs.Plain.{Counted, Plain}
use Rattle.visit.specs.Taking.{gave, end_given}

-- ---- the shape of an answer

pub plain_end : {width : ℕ} {b : List ℕ} (r : Record) → Plain width b b (gave End no_id 0 None None None r).answer
plain_end r = record { shape = (record { no-id = refl; no-generation = refl; no-time = refl; no-zone = refl }, refl); few = omega arith; past = λ k h. refl }

pub plain-bare : {width : ℕ} {b b' : List ℕ} {why : Refusal} {n : ℕ} (r : Record) → OfCall why → Counted why n → n ≤ most → Past width n b b' → Plain width b b' (gave (Refused why) no_id n None None None r).answer
plain-bare r c m h p = record { shape = (record { no-id = refl; no-generation = refl; no-time = refl; no-zone = refl }, c, m); few = h; past = p.same }

-- 9
pub counted-lost : Counted CommitNotFound 0
counted-lost = record { lost = λ e. refl; crowded = λ e. let z : ◌≡◌ {A = ℕ} 0 1 = cc in absurd (omega arith) }

-- 10, after any number of parents
counted-bad : {n : ℕ} → Counted CommitUnreadable n
counted-bad = record { lost = λ e. let z : ◌≡◌ {A = ℕ} 0 1 = cc in absurd (omega arith); crowded = λ e. let z : ◌≡◌ {A = ℕ} 0 1 = cc in absurd (omega arith) }

-- 11
counted-many : {n : ℕ} → n ≡ most → Counted TooManyParents n
counted-many h = record { lost = λ e. let z : ◌≡◌ {A = ℕ} 0 1 = cc in absurd (omega arith); crowded = λ e. h }

-- after a body's parents
pub plain-ends : {width : ℕ} {b b' : List ℕ} {n : ℕ} (e : BodyEnd) (x : Id) (t : Option Seconds) (z : Option ℤ) (r : Record) → length x ≡ width → (e ≡ Crowded → n ≡ most) → n ≤ most → Past width n b b' → Plain width b b' (end_given e x n t z r).answer
plain-ends Whole x t z r w m h p = record { shape = (x, w, refl); few = h; past = p.same }
plain-ends Unreadable x t z r w m h p = plain-bare r (omega arith, omega arith) counted-bad h p
plain-ends Crowded x t z r w m h p = plain-bare r (omega arith, omega arith) (counted-many (m refl)) h p

-- ---- ends of a reading

pub unreadable_not_whole : Unreadable ≡ Whole → ⊥
unreadable_not_whole e = let z : ◌≡◌ {A = ℕ} 0 1 = cc in omega arith

pub crowded_not_whole : Crowded ≡ Whole → ⊥
crowded_not_whole e = let z : ◌≡◌ {A = ℕ} 0 1 = cc in omega arith
