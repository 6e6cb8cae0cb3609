-- Passing the lines one by one tells what the lines with each start tell together: a second line with a start makes the reading given twice, and
-- no further line takes that back. Assumes nothing.
use Rattle.std.specs.Prelude.{Err, None, Ok, Option, Result, Some}
use mathlib.Core.Path.{◌≡◌, refl, ap, ◌∙◌}
use mathlib.Core.Bool.{Bool, true, false, ◌||◌}
use mathlib.Core.List.{List, [], ◌∷◌}
use Prim.Native.Nat.{ℕ}
use Rattle.hash.specs.Bytes.{if_some, pick}
use Rattle.object.specs.Header.{strip}
use Rattle.walk.specs.declared.Refusal.{Refusal}
use Rattle.walk.specs.declared.Refusal.TheVariants.{ReadingTwice, ReadingUnreadable}
use Rattle.feed.specs.declared.Feed.{Feed}
use Rattle.feed.specs.declared.Told.{Told}
use Rattle.feed.specs.declared.Told.TheVariants.{Nothing, Twice}
use Rattle.feed.specs.declared.Lines.{Lines}
use Rattle.feed.specs.Feed.{cone_start, bed_start, millimetres, told_by, told, starting_so, twice, unreadable, reading_in, judged, lines_of, message_of, feed_in, feed_of}
use Rattle.feed.specs.Passing.{another, with_line, pass_line, pass_lines, nothing_yet}

-- lines with the same start, one after the other
joined : Told → List (List ℕ) → Told
joined t [] = t
joined t (x ∷ xs) = joined (another t x) xs

stays_twice : (xs : List (List ℕ)) → joined Twice xs ≡ Twice
unfolding joined
stays_twice [] = refl
stays_twice (x ∷ xs) = stays_twice xs

joined-told : (xs : List (List ℕ)) → joined Nothing xs ≡ told xs
unfolding joined
joined-told [] = refl
joined-told (t ∷ []) = refl
joined-told (t ∷ u ∷ us) = go (millimetres t)
  where
    go : (o : Option ℕ) → joined (another (told_by o) u) us ≡ Twice
    go None = stays_twice us
    go (Some v) = stays_twice us

-- a line that has the start joins those that had it
one_more : (t : Told) (start l : List ℕ) (ls : List (List ℕ)) → joined (with_line t start l) (starting_so start ls) ≡ joined t (starting_so start (l ∷ ls))
unfolding joined with_line starting_so
one_more t start l ls = go (strip start l)
  where
    go : (o : Option (List ℕ)) → joined (if_some o t (λ x. another t x)) (starting_so start ls) ≡ joined t (if_some o (starting_so start ls) (λ x. x ∷ starting_so start ls))
    go None = refl
    go (Some x) = refl

pass-joined : (s : Lines) (ls : List (List ℕ)) → pass_lines s ls ≡ record { cone = joined s.cone (starting_so cone_start ls); bed = joined s.bed (starting_so bed_start ls) }
unfolding joined starting_so pass_line pass_lines
pass-joined s [] = refl
pass-joined s (l ∷ ls) =
    pass-joined (pass_line s l) ls
    ∙ (λ j. record { cone = one_more s.cone cone_start l ls j; bed = one_more s.bed bed_start l ls j })

pub all-passed : (ls : List (List ℕ)) → pass_lines nothing_yet ls ≡ record { cone = told (starting_so cone_start ls); bed = told (starting_so bed_start ls) }
all-passed ls =
    pass-joined nothing_yet ls
    ∙ (λ j. record { cone = joined-told (starting_so cone_start ls) j; bed = joined-told (starting_so bed_start ls) j })

-- so what is judged after all lines are passed are the readings
pub judged_feed : (b m : List ℕ) (s : Lines) → m ≡ message_of b → s ≡ pass_lines nothing_yet (lines_of m) → judged s.cone s.bed ≡ feed_of b
unfolding feed_of feed_in
judged_feed b m s e f = ap (λ (t : Lines). judged t.cone t.bed) (f ∙ all-passed (lines_of m)) ∙ ap (λ (l : List ℕ). feed_in (lines_of l)) e

-- ---- the judgement, test by test
module _ (c b : Told) where
  pub cone-twice : twice c ≡ true → Err ReadingTwice ≡ judged c b
  unfolding judged
  cone-twice e = rw e

  pub bed-twice : twice b ≡ true → Err ReadingTwice ≡ judged c b
  unfolding judged
  bed-twice e = rw e (go (twice c))
    where
      go : (t : Bool) → ◌≡◌ {A = Result Feed Refusal} (Err ReadingTwice) (pick (t || true) (Err ReadingTwice) (pick (unreadable c || unreadable b) (Err ReadingUnreadable) (Ok (record { cone = reading_in c; bed = reading_in b }))))
      go true = refl
      go false = refl

  pub cone-unreadable : twice c ≡ false → twice b ≡ false → unreadable c ≡ true → Err ReadingUnreadable ≡ judged c b
  unfolding judged
  cone-unreadable e f g = rw (e, f, g)

  pub bed-unreadable : twice c ≡ false → twice b ≡ false → unreadable c ≡ false → unreadable b ≡ true → Err ReadingUnreadable ≡ judged c b
  unfolding judged
  bed-unreadable e f g h = rw (e, f, g, h)

  pub both_read : twice c ≡ false → twice b ≡ false → unreadable c ≡ false → unreadable b ≡ false → Ok (record { cone = reading_in c; bed = reading_in b }) ≡ judged c b
  unfolding judged
  both_read e f g h = rw (e, f, g, h)
