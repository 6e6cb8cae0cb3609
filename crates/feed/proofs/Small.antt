-- A reading that is given is at most 1,000,000,000: no other is readable. Assumes nothing.
use Rattle.std.specs.Prelude.{Err, None, Ok, Option, Some}
use mathlib.Core.Path.{◌≡◌, refl, sym, ap, ◌∙◌}
use mathlib.Core.Bool.{Bool, true, false, cond, ◌&&◌, ◌||◌}
use mathlib.Core.List.{List, [], ◌∷◌}
use Prim.Native.Nat.{ℕ, ◌≤◌}
use native.Mathlib.Omega.{arith}
use lib.ListN.{length}
use lib.Dec.{leb}
use borrow.Author.Tests.{leb-true}
use Rattle.hash.specs.Bytes.{if_some, pick}
use Rattle.hash.proofs.Tests.{by_cases, no-some, some_in}
use Rattle.walk.specs.declared.Refusal.TheVariants.{ReadingTwice, ReadingUnreadable}
use Rattle.feed.specs.declared.Feed as feed
use Rattle.feed.specs.declared.Told.{Told}
use Rattle.feed.specs.declared.Told.TheVariants.{Nothing, Millimetres, Unreadable, Twice}
use Rattle.feed.specs.Feed.{cone_start, bed_start, most_millimetres, at_most, decimal, millimetres, told_by, told, starting_so, twice, unreadable, reading_in, judged, lines_of, message_of, feed_in, feed_of}

most-small : (v n : ℕ) → at_most v ≡ Some n → n ≤ most_millimetres
most-small v n e =
    by_cases (leb v most_millimetres)
    (λ h. let z : v ≡ n = some_in (rw h at e) in omega (arith, leb-true v most_millimetres h, z))
    (λ h. no-some (rw h at e))

millimetres-small : (t : List ℕ) (n : ℕ) → millimetres t ≡ Some n → n ≤ most_millimetres
unfolding millimetres
millimetres-small t n e = go (leb 1 (length t) && leb (length t) 10) (decimal 0 t) e
  where
    go : (b : Bool) (o : Option ℕ) → cond b (if_some o None (λ v. at_most v)) None ≡ Some n → n ≤ most_millimetres
    go true None e = no-some e
    go true (Some v) e = most-small v n e
    go false o e = no-some e

by-small : (o : Option ℕ) (n : ℕ) → told_by o ≡ Millimetres n → o ≡ Some n
by-small None n e = let z : ◌≡◌ {A = ℕ} 0 1 = cc in absurd (omega arith)
by-small (Some v) n e = cc

told-small : (ts : List (List ℕ)) (n : ℕ) → told ts ≡ Millimetres n → n ≤ most_millimetres
told-small [] n e = let z : ◌≡◌ {A = ℕ} 0 1 = cc in absurd (omega arith)
told-small (t ∷ []) n e = millimetres-small t n (by-small (millimetres t) n e)
told-small (t ∷ u ∷ us) n e = let z : ◌≡◌ {A = ℕ} 0 1 = cc in absurd (omega arith)

given_in : (t : Told) (n : ℕ) → reading_in t ≡ Some n → t ≡ Millimetres n
given_in Nothing n e = let z : ◌≡◌ {A = ℕ} 0 1 = cc in absurd (omega arith)
given_in (Millimetres m) n e = let z : m ≡ n = cc in ap Millimetres z
given_in Unreadable n e = let z : ◌≡◌ {A = ℕ} 0 1 = cc in absurd (omega arith)
given_in Twice n e = let z : ◌≡◌ {A = ℕ} 0 1 = cc in absurd (omega arith)

faulty_not_read {ℓ} : {X : Type ℓ} {f : feed.Feed} {r : Rattle.walk.specs.declared.Refusal.Refusal} → Err r ≡ Ok f → X
faulty_not_read e = let z : ◌≡◌ {A = ℕ} 0 1 = cc in absurd (omega arith)

judged-read : (c b : Told) (f : feed.Feed) → judged c b ≡ Ok f → (f.cone ≡ reading_in c) × (f.bed ≡ reading_in b)
unfolding judged
judged-read c b f e = go (twice c || twice b) (unreadable c || unreadable b) e
  where
    go : (s t : Bool) → pick s (Err ReadingTwice) (pick t (Err ReadingUnreadable) (Ok (record { cone = reading_in c; bed = reading_in b }))) ≡ Ok f → (f.cone ≡ reading_in c) × (f.bed ≡ reading_in b)
    go true t e = faulty_not_read e
    go false true e = faulty_not_read e
    go false false e = let z : record { cone = reading_in c; bed = reading_in b } ≡ f = cc in (ap (λ (g : feed.Feed). g.cone) (sym z), ap (λ (g : feed.Feed). g.bed) (sym z))

feed_told : (b : List ℕ) → feed_of b ≡ judged (told (starting_so cone_start (lines_of (message_of b)))) (told (starting_so bed_start (lines_of (message_of b))))
unfolding feed_of feed_in
feed_told b = refl

pub cone-small : (b : List ℕ) (f : feed.Feed) (n : ℕ) → feed_of b ≡ Ok f → f.cone ≡ Some n → n ≤ most_millimetres
cone-small b f n e g =
    let ts : List (List ℕ) = starting_so cone_start (lines_of (message_of b)) in
    let p = judged-read (told ts) (told (starting_so bed_start (lines_of (message_of b)))) f (sym (feed_told b) ∙ e) in
    told-small ts n (given_in (told ts) n (sym p.0 ∙ g))

pub bed-small : (b : List ℕ) (f : feed.Feed) (n : ℕ) → feed_of b ≡ Ok f → f.bed ≡ Some n → n ≤ most_millimetres
bed-small b f n e g =
    let ts : List (List ℕ) = starting_so bed_start (lines_of (message_of b)) in
    let p = judged-read (told (starting_so cone_start (lines_of (message_of b)))) (told ts) f (sym (feed_told b) ∙ e) in
    told-small ts n (given_in (told ts) n (sym p.1 ∙ g))
