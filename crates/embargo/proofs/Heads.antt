-- A header is read from what stands before the message: each of its lines begins with a word that has no newline and ends with one, so a reader
-- that stands at a line's start never passes an empty line. Two bodies that agree up to their first empty line have the same header, whatever
-- their messages hold. Assumes nothing.
use Rattle.std.specs.Prelude.{None, Option, Some}
use mathlib.Core.Path.{◌≡◌, refl, sym, ap, ◌∙◌, subst}
use mathlib.Core.Bool.{Bool, true, false, cond, ◌&&◌}
use mathlib.Core.List.{List, [], ◌∷◌}
use Prim.Native.Nat.{ℕ, zero, suc, ◌+◌, ◌*◌, ◌<◌}
use native.Mathlib.Omega.{arith}
use lib.ListN.{length, take, drop}
use lib.Dec.{eqb, ltb}
use lib.IntN.{ℤ}
use borrow.Author.Tests.{eq-eqb, ne_eqb, eqb-true, eqb-false, ltb-true}
use Rattle.hash.specs.Bytes.{Id, if_some}
use Rattle.hash.proofs.Tests.{by_cases, clash, and_both, some_in}
use Rattle.actor.specs.Person.{further, first_of, line, has_email, line_seconds, line_zone}
use Rattle.object.specs.Header.{is_some, strip, hex_val, with_byte, hex_bytes, newline, tree_word, parent_word, author_word, committer_word, after_digits, digits_read, after_word, id_line, Parents, with_parent, from_parent, parent_lines, word_line, author_line, Stamped, stamped, committer_line, past_parent, skip_parents, after_author, after_tree, stamp_of, seconds_in, zone_in, seconds_of, zone_of, most, with_parents, with_tree, header}
use Rattle.embargo.specs.Embargo.{head_from, before_message}

-- two lists of bytes agree up to their first empty line; the flag says whether a line starts here
pub data Agree : Bool → List ℕ → List ℕ → Type 0 where
  at-end : {f : Bool} → Agree f [] []
  at-empty : {f : Bool} {x : ℕ} {s t : List ℕ} → eqb x 10 ≡ true → f ≡ true → Agree f (x ∷ s) (x ∷ t)
  at_byte : {f : Bool} {x : ℕ} {s t : List ℕ} → Agree (eqb x 10) s t → Agree f (x ∷ s) (x ∷ t)

-- what stands before the message decides
same-front : (f : Bool) (x : ℕ) (s t : List ℕ) → ◌≡◌ {A = List ℕ} (cond (eqb x 10 && f) [] (head_from (eqb x 10) s)) (cond (eqb x 10 && f) [] (head_from (eqb x 10) t))
    → (head_from (eqb x 10) s ≡ head_from (eqb x 10) t → Agree (eqb x 10) s t) → Agree f (x ∷ s) (x ∷ t)
same-front f x s t e go =
    by_cases (eqb x 10 && f)
    (λ h. let b : (eqb x 10 ≡ true) × (f ≡ true) = and_both h in at-empty b.0 b.1)
    (λ h. at_byte (go (rw h at e)))

pub heads_agree : (f : Bool) (a b : List ℕ) → head_from f a ≡ head_from f b → Agree f a b
unfolding head_from
heads_agree f [] [] e = at-end
heads_agree f [] (y ∷ ys) e = let z : ◌≡◌ {A = ℕ} 0 1 = cc in absurd (omega arith)
heads_agree f (x ∷ xs) [] e = let z : ◌≡◌ {A = ℕ} 0 1 = cc in absurd (omega arith)
heads_agree f (x ∷ xs) (y ∷ ys) e =
    let p : x ≡ y = cc in
    let q : ◌≡◌ {A = List ℕ} (cond (eqb x 10 && f) [] (head_from (eqb x 10) xs)) (cond (eqb y 10 && f) [] (head_from (eqb y 10) ys)) = cc in
    subst (λ (v : ℕ). ◌≡◌ {A = List ℕ} (cond (eqb x 10 && f) [] (head_from (eqb x 10) xs)) (cond (eqb v 10 && f) [] (head_from (eqb v 10) ys)) → Agree f (x ∷ xs) (v ∷ ys)) p
    (λ r. same-front f x xs ys r (heads_agree (eqb x 10) xs ys)) q

-- what two readers give who agree: nothing, or the same and then lists that agree
data After : Bool → Option (List ℕ) → Option (List ℕ) → Type 0 where
  no-rest : {f : Bool} → After f None None
  rest : {f : Bool} {s t : List ℕ} → Agree f s t → After f (Some s) (Some t)

data Found {A : Type 0} : Bool → Option (A × List ℕ) → Option (A × List ℕ) → Type 0 where
  not_found : {f : Bool} → Found f None None
  found : {f : Bool} {x : A} {s t : List ℕ} → Agree f s t → Found f (Some (x, s)) (Some (x, t))

some-found : {A : Type 0} {f : Bool} {o q : Option (A × List ℕ)} → Found f o q → is_some o ≡ is_some q
some-found not_found = refl
some-found (found r) = refl

some_after : {f : Bool} {o q : Option (List ℕ)} → After f o q → is_some o ≡ is_some q
some_after no-rest = refl
some_after (rest r) = refl

-- ---- words

-- no newline in a word
abbrev wordy : List ℕ → Bool
wordy [] = true
wordy (p ∷ ps) = cond (eqb p 10) false (wordy ps)

not-newline : (p : ℕ) (ps : List ℕ) → wordy (p ∷ ps) ≡ true → (eqb p 10 ≡ false) × (wordy ps ≡ true)
not-newline p ps e = by_cases (eqb p 10) (λ h. clash {b = false} (rw h at e) refl) (λ h. (h, rw h at e))

-- a byte of a word leaves a place inside a line
inside : (p x : ℕ) {s t : List ℕ} → eqb p 10 ≡ false → eqb p x ≡ true → Agree (eqb x 10) s t → Agree false s t
inside p x {s} {t} e h r =
    let k : eqb x 10 ≡ false = ap (λ (v : ℕ). eqb v 10) (sym (eqb-true p x h)) ∙ e in
    subst (λ (f : Bool). Agree f s t) k r

strip_agree : (text : List ℕ) → wordy text ≡ true → {a b : List ℕ} → Agree false a b → After false (strip text a) (strip text b)
unfolding strip
strip_agree [] e r = rest r
strip_agree (p ∷ ps) e at-end = no-rest
strip_agree (p ∷ ps) e (at-empty y z) = clash {b = false} z refl
strip_agree (p ∷ ps) e (at_byte {x = x} r) =
    let w = not-newline p ps e in
    by_cases (eqb p x) (λ h. rw h (strip_agree ps w.1 (inside p x w.0 h r))) (λ h. rw h no-rest)

-- a word that has bytes leaves a place inside a line, wherever it is looked for; at an empty line there is none
word_agree : (p : ℕ) (ps : List ℕ) → wordy (p ∷ ps) ≡ true → {f : Bool} {a b : List ℕ} → Agree f a b → After false (strip (p ∷ ps) a) (strip (p ∷ ps) b)
unfolding strip
word_agree p ps e at-end = no-rest
word_agree p ps e (at-empty {x = x} y z) =
    let n : eqb p x ≡ false = ap (eqb p) (eqb-true x 10 y) ∙ (not-newline p ps e).0 in
    rw n no-rest
word_agree p ps e (at_byte {x = x} r) =
    let w = not-newline p ps e in
    by_cases (eqb p x) (λ h. rw h (strip_agree ps w.1 (inside p x w.0 h r))) (λ h. rw h no-rest)

-- the newline leaves a line's start
newline_agree : {a b : List ℕ} → Agree false a b → After true (strip newline a) (strip newline b)
unfolding strip
newline_agree at-end = no-rest
newline_agree (at-empty y z) = clash {b = false} z refl
newline_agree (at_byte {x = x} {s = s} {t = t} r) =
    by_cases (eqb 10 x)
    (λ h.
    let k : eqb x 10 ≡ true = ap (λ (v : ℕ). eqb v 10) (sym (eqb-true 10 x h)) in
    rw h (rest (subst (λ (f : Bool). Agree f s t) k r)))
    (λ h. rw h no-rest)

-- ---- ids

-- a newline is no digit
no_digit : (x : ℕ) → eqb x 10 ≡ true → ltb (hex_val x) 16 ≡ false
unfolding hex_val
no_digit x h = ap (λ (v : ℕ). ltb (hex_val v) 16) (eqb-true x 10 h)

digit-inside : (x : ℕ) → ltb (hex_val x) 16 ≡ true → eqb x 10 ≡ false
digit-inside x h = by_cases (eqb x 10) (λ e. clash h (no_digit x e)) (λ e. e)

with_found : (v : ℕ) {f : Bool} {o q : Option (Id × List ℕ)} → Found f o q → Found f (with_byte v o) (with_byte v q)
with_found v not_found = not_found
with_found v (found r) = found r

second-not : (a b : Bool) → b ≡ false → (a && b) ≡ false
second-not true b e = e
second-not false b e = refl

hex_agree : (n : ℕ) {a b : List ℕ} → Agree false a b → Found false (hex_bytes n a) (hex_bytes n b)
unfolding hex_bytes
hex_agree zero r = found r
hex_agree (suc n) at-end = not_found
hex_agree (suc n) (at-empty y z) = clash {b = false} z refl
hex_agree (suc n) (at_byte at-end) = not_found
hex_agree (suc n) (at_byte {x = h} (at-empty {x = l} y z)) =
    let w : (ltb (hex_val h) 16 && ltb (hex_val l) 16) ≡ false = second-not (ltb (hex_val h) 16) (ltb (hex_val l) 16) (no_digit l y) in
    rw w not_found
hex_agree (suc n) (at_byte {x = h} (at_byte {x = l} {s = s} {t = t} r)) =
    by_cases (ltb (hex_val h) 16 && ltb (hex_val l) 16)
    (λ w.
    let d : (ltb (hex_val h) 16 ≡ true) × (ltb (hex_val l) 16 ≡ true) = and_both w in
    rw w (with_found (hex_val h * 16 + hex_val l) (hex_agree n (subst (λ (f : Bool). Agree f s t) (digit-inside l d.1) r))))
    (λ w. rw w not_found)

ended_agree : (x : Id) {f : Bool} {o q : Option (List ℕ)} → After f o q → Found f (after_digits x o) (after_digits x q)
ended_agree x no-rest = not_found
ended_agree x (rest r) = found r

digits_agree : {o q : Option (Id × List ℕ)} → Found false o q → Found true (digits_read o) (digits_read q)
digits_agree not_found = not_found
digits_agree (found {x = x} r) = ended_agree x (newline_agree r)

id_agree : (w : ℕ) {o q : Option (List ℕ)} → After false o q → Found true (after_word w o) (after_word w q)
id_agree w no-rest = not_found
id_agree w (rest r) = digits_agree (hex_agree w r)

tree_agree : (w : ℕ) {a b : List ℕ} → Agree true a b → Found true (id_line w tree_word a) (id_line w tree_word b)
unfolding id_line
tree_agree w r = id_agree w (word_agree 116 _ refl r)

parent_agree : (w : ℕ) {a b : List ℕ} → Agree true a b → Found true (id_line w parent_word a) (id_line w parent_word b)
unfolding id_line
parent_agree w r = id_agree w (word_agree 112 _ refl r)

-- ---- parents

record SameParents (p q : Parents) : Type 0 where
  ids : p.ids ≡ q.ids
  more : p.more ≡ q.more
  after : Agree true p.rest q.rest

from_agree : (further : List ℕ → Parents) → ((s t : List ℕ) → Agree true s t → SameParents (further s) (further t))
    → {a b : List ℕ} {o q : Option (Id × List ℕ)} → Agree true a b → Found true o q → SameParents (from_parent a further o) (from_parent b further q)
from_agree further go r not_found = record { ids = refl; more = refl; after = r }
from_agree further go r (found {x = x} {s = s} {t = t} u) =
    let p = go s t u in
    record { ids = ap (λ (l : List Id). x ∷ l) p.ids; more = p.more; after = p.after }

parents_agree : (w n : ℕ) (a b : List ℕ) → Agree true a b → SameParents (parent_lines w n a) (parent_lines w n b)
unfolding parent_lines
parents_agree w zero a b r = record { ids = refl; more = some-found (parent_agree w r); after = r }
parents_agree w (suc n) a b r = from_agree (λ c. parent_lines w n c) (parents_agree w n) r (parent_agree w r)

past_agree : (further : List ℕ → List ℕ) → ((s t : List ℕ) → Agree true s t → Agree true (further s) (further t))
    → {a b : List ℕ} {o q : Option (Id × List ℕ)} → Agree true a b → Found true o q → Agree true (past_parent a further o) (past_parent b further q)
past_agree further go r not_found = r
past_agree further go r (found {s = s} {t = t} u) = go s t u

skip_agree : (w k : ℕ) (a b : List ℕ) → Agree true a b → Agree true (skip_parents w k a) (skip_parents w k b)
unfolding skip_parents
skip_agree w zero a b r = r
skip_agree w (suc k) a b r = past_agree (λ c. skip_parents w k c) (skip_agree w k) r (parent_agree w r)

-- ---- the lines that name a person

-- one byte more before a line's end
abbrev longer : ℕ → Option (List ℕ × List ℕ) → Option (List ℕ × List ℕ)
longer x None = None
longer x (Some t) = Some (x ∷ t.0, t.1)

line-more : (x : ℕ) (s : List ℕ) → eqb x 10 ≡ false → line (x ∷ s) ≡ longer x (line s)
unfolding line first_of
line-more x s e = rw e (go (first_of 10 s))
  where
    go : (o : Option ℕ) → if_some (further o) None (λ k. Some (take k (x ∷ s), drop (suc k) (x ∷ s))) ≡ longer x (if_some o None (λ k. Some (take k s, drop (suc k) s)))
    go None = refl
    go (Some k) = refl

line-ends : (x : ℕ) (s : List ℕ) → eqb x 10 ≡ true → line (x ∷ s) ≡ Some ([], s)
unfolding line first_of
line-ends x s e = rw e

longer_agree : (x : ℕ) {f : Bool} {o q : Option (List ℕ × List ℕ)} → Found f o q → Found f (longer x o) (longer x q)
longer_agree x not_found = not_found
longer_agree x (found r) = found r

no_line : line [] ≡ None
unfolding line first_of
no_line = refl

line_agree : {f : Bool} {a b : List ℕ} → Agree f a b → f ≡ false → Found true (line a) (line b)
line_agree at-end e = rw no_line not_found
line_agree (at-empty y z) e = clash z e
line_agree (at_byte {x = x} {s = s} {t = t} r) e =
    by_cases (eqb x 10)
    (λ h. rw (line-ends x s h, line-ends x t h) (found (subst (λ (f : Bool). Agree f s t) h r)))
    (λ h. rw (line-more x s h, line-more x t h) (longer_agree x (line_agree r h)))

text_agree : {o q : Option (List ℕ)} → After false o q → Found true (if_some o None line) (if_some q None line)
text_agree no-rest = not_found
text_agree (rest r) = line_agree r refl

author-kept : {f : Bool} {o q : Option (List ℕ × List ℕ)} → Found f o q
    → After f (if_some o None (λ t. cond (has_email t.0) (Some t.1) None)) (if_some q None (λ t. cond (has_email t.0) (Some t.1) None))
author-kept not_found = no-rest
author-kept (found {x = x} r) = by_cases (has_email x) (λ h. rw h (rest r)) (λ h. rw h no-rest)

author_agree : {a b : List ℕ} → Agree true a b → After true (author_line a) (author_line b)
unfolding author_line word_line
author_agree r = author-kept (text_agree (word_agree 97 _ refl r))

stamp_kept : {f : Bool} {o q : Option (List ℕ × List ℕ)} → Found f o q
    → if_some o None (λ t. stamped (line_seconds t.0) (line_zone t.0)) ≡ if_some q None (λ t. stamped (line_seconds t.0) (line_zone t.0))
stamp_kept not_found = refl
stamp_kept (found r) = refl

committer_same : {a b : List ℕ} → Agree true a b → committer_line a ≡ committer_line b
unfolding committer_line word_line
committer_same r = stamp_kept (text_agree (word_agree 99 _ refl r))

after-author : {o q : Option (List ℕ)} → After true o q → after_author o ≡ after_author q
after-author no-rest = refl
after-author (rest r) = committer_same r

-- ---- the whole header

after-tree : (w k : ℕ) {o q : Option (Id × List ℕ)} → Found true o q → after_tree w k o ≡ after_tree w k q
after-tree w k not_found = refl
after-tree w k (found {s = s} {t = t} r) = after-author (author_agree (skip_agree w k s t r))

stamp_same : (w : ℕ) (a b : List ℕ) → length a ≡ length b → Agree true a b → stamp_of w a ≡ stamp_of w b
unfolding stamp_of
stamp_same w a b e r = rw e (after-tree w (length b) (tree_agree w r))

seconds-same : (w : ℕ) (a b : List ℕ) → length a ≡ length b → Agree true a b → seconds_of w a ≡ seconds_of w b
unfolding seconds_of
seconds-same w a b e r = ap seconds_in (stamp_same w a b e r)

zone-same : (w : ℕ) (a b : List ℕ) → length a ≡ length b → Agree true a b → zone_of w a ≡ zone_of w b
unfolding zone_of
zone-same w a b e r = ap zone_in (stamp_same w a b e r)

with_tree_lem : (w : ℕ) (a b : List ℕ) → length a ≡ length b → Agree true a b → {o q : Option (Id × List ℕ)} → Found true o q → with_tree w a o ≡ with_tree w b q
with_tree_lem w a b e r not_found = refl
with_tree_lem w a b e r (found {s = s} {t = t} u) =
    let p = parents_agree w most s t u in
    let n = some_after (author_agree p.after) in
    (λ j. record {
      tree = true;
      ids = p.ids j;
      crowded = p.more j;
      author = n j;
      seconds = seconds-same w a b e r j;
      zone = zone-same w a b e r j;
    })

-- two bodies of equal length that have the same bytes up to their first empty line have the same header
pub header-same : (w : ℕ) (c d : List ℕ) → length c ≡ length d → before_message c ≡ before_message d → header w c ≡ header w d
unfolding header before_message
header-same w c d e f = let r = heads_agree true c d f in with_tree_lem w c d e r (tree_agree w r)
