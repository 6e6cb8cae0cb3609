-- Laws of lines: the first ends at the first newline, or is all there is; so lines can be passed one by one. Assumes nothing.
use Rattle.std.specs.Prelude.{None, Option, Some}
use mathlib.Core.Path.{◌≡◌, refl, sym, ap, ◌∙◌}
use mathlib.Core.Bool.{true, false}
use mathlib.Core.List.{List, [], ◌∷◌}
use Prim.Native.Nat.{ℕ, suc, ◌+◌, ◌≤◌}
use native.Mathlib.Omega.{arith}
use lib.ListN.{length, take, drop, drop_of_length-le}
use lib.Seq.{take_all, drop-drop}
use lib.Dec.{eqb}
use Rattle.hash.specs.Bytes.{at, if_some}
use Rattle.hash.proofs.Tests.{by_cases, clash}
use Rattle.object.specs.Header.{is_some, strip}
use Rattle.actor.specs.Person.{further, first_of}
use Rattle.actor.proofs.Places.{first_below}
use Rattle.object.proofs.Words.{strip-rest}
use Rattle.feed.specs.declared.Told.{Told}
use Rattle.feed.specs.declared.Lines.{Lines}
use Rattle.feed.specs.Feed.{longer, lines_of}
use Rattle.feed.specs.Passing.{line_length, another, with_line, pass_line, pass_lines}

-- the lines, by the place of the first newline
abbrev cut_at : List ℕ → Option ℕ → List (List ℕ)
cut_at b None = b ∷ []
cut_at b (Some k) = take k b ∷ lines_of (drop (suc k) b)

cuts : (b : List ℕ) → lines_of b ≡ cut_at b (first_of 10 b)
unfolding lines_of first_of
cuts [] = refl
cuts (x ∷ xs) = by_cases (eqb x 10) (λ h. rw h) (λ h. rw h (ap (longer x) (cuts xs) ∙ go (first_of 10 xs)))
  where
    go : (o : Option ℕ) → longer x (cut_at xs o) ≡ cut_at (x ∷ xs) (further o)
    go None = refl
    go (Some k) = refl

-- an empty line starts in no way
pub empty-line : (s : Lines) → pass_line s [] ≡ s
unfolding pass_line with_line strip
empty-line s = refl

pub no_bytes : (s : Lines) (b : List ℕ) → b ≡ [] → pass_lines s (lines_of b) ≡ s
unfolding lines_of pass_lines
no_bytes s b e = rw e (empty-line s)

-- a line that does not have a start, and one that has it
pub no_start : (t : Told) (start l : List ℕ) → is_some (strip start l) ≡ false → t ≡ with_line t start l
unfolding with_line
no_start t start l e = go (strip start l) e
  where
    go : (o : Option (List ℕ)) → is_some o ≡ false → t ≡ if_some o t (λ x. another t x)
    go None e = refl
    go (Some x) e = clash refl e

pub has-start : (t : Told) (start l : List ℕ) → is_some (strip start l) ≡ true → another t (drop (length start) l) ≡ with_line t start l
unfolding with_line
has-start t start l e = go (strip start l) e (strip-rest start l)
  where
    go : (o : Option (List ℕ)) → is_some o ≡ true → ((r : List ℕ) → o ≡ Some r → r ≡ drop (length start) l) → another t (drop (length start) l) ≡ if_some o t (λ x. another t x)
    go None e f = clash e refl
    go (Some x) e f = sym (ap (another t) (f x refl))

-- the first n bytes of a rest
pub front-part : (r b : List ℕ) (p n : ℕ) → r ≡ drop p b → at r 0 n ≡ take n (drop p b)
unfolding at
front-part r b p n e = ap (take n) e

-- the length of the first line
pub length_within : (b : List ℕ) → line_length b ≤ length b
unfolding line_length
length_within b = go (first_of 10 b) refl
  where
    go : (o : Option ℕ) → first_of 10 b ≡ o → if_some o (length b) (λ k. k) ≤ length b
    go None e = omega arith
    go (Some k) e = omega (arith, first_below 10 b k e)

pub length_first : (b : List ℕ) (n : ℕ) → first_of 10 b ≡ Some n → n ≡ line_length b
unfolding line_length
length_first b n e = rw e

pub length_all : (b : List ℕ) (n : ℕ) → first_of 10 b ≡ None → n ≡ length b → n ≡ line_length b
unfolding line_length
length_all b n e h = rw e h

-- one line passed
pub one-passed : (s : Lines) (b : List ℕ) → pass_lines s (lines_of b) ≡ pass_lines (pass_line s (take (line_length b) b)) (lines_of (drop (suc (line_length b)) b))
unfolding line_length pass_lines
one-passed s b = ap (pass_lines s) (cuts b) ∙ go (first_of 10 b)
  where
    go : (o : Option ℕ) → pass_lines s (cut_at b o) ≡ pass_lines (pass_line s (take (if_some o (length b) (λ k. k)) b)) (lines_of (drop (suc (if_some o (length b) (λ k. k))) b))
    go None =
        ap (pass_line s) (sym (take_all (length b) b (omega arith)))
        ∙ sym (no_bytes (pass_line s (take (length b) b)) (drop (suc (length b)) b) (drop_of_length-le b {i = suc (length b)} (omega arith)))
    go (Some k) = refl

-- the same from place p of b on, with the line's length n
pub passed-at : (s : Lines) (b : List ℕ) (p n : ℕ) → n ≡ line_length (drop p b) → pass_lines s (lines_of (drop p b)) ≡ pass_lines (pass_line s (take n (drop p b))) (lines_of (drop (p + n + 1) b))
passed-at s b p n e =
    let k : p + suc n ≡ p + n + 1 = omega arith in
    let d : drop (suc n) (drop p b) ≡ drop (p + n + 1) b = drop-drop (suc n) p b ∙ ap (λ (m : ℕ). drop m b) k in
    let q : pass_lines s (lines_of (drop p b)) ≡ pass_lines (pass_line s (take n (drop p b))) (lines_of (drop (suc n) (drop p b))) = rw e (one-passed s (drop p b)) in
    q ∙ ap (λ (l : List ℕ). pass_lines (pass_line s (take n (drop p b))) (lines_of l)) d
