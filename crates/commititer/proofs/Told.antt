-- What crate `object` answers of a line, in the terms of tokens: a good line's token and the place after it, and that a bad one is none.
-- Assumes nothing.
use Rattle.std.specs.Prelude.{None, Option, Some}
use mathlib.Core.Path.{◌≡◌, refl, sym, ◌∙◌, ap}
use Prim.Native.Nat.{ℕ, ◌+◌, ◌-◌}
use mathlib.Core.Bool.{true, false}
use mathlib.Core.List.{List, []}
use native.Mathlib.Omega.{arith}
use lib.ListN.{length, drop, length-drop}
use Rattle.hash.specs.Bytes.{Id}
use Rattle.hash.proofs.Tests.{no-some}
use Rattle.date.specs.declared.Stamp.{Stamp}
use Rattle.object.specs.Header.{is_some, parent_size, id_line, parent_word, Stamped}
use Rattle.object.specs.Read.{line_read, stamp_given, stamp_read, after_id, id_read, parent_at}
use Rattle.object.specs.declared.ObjectId.{ObjectId}
use Rattle.object.proofs.Parents.{parent-good, parent-fits}
use Rattle.commititer.specs.Token.{here, Told, tree_told, committer_told, author_told, parent_told, token_of, ended, place_of}
use Rattle.commititer.specs.declared.Place.{Place}
use Rattle.commititer.specs.declared.State.TheVariants.{Parents as ParentLines, Committer as CommitterLine, Done}
use Rattle.commititer.specs.declared.Token.{Token}
use Rattle.commititer.specs.declared.Token.TheVariants.{Tree, Parent, Author, Committer}

-- what a good line tells, wherever it stands: its token, and the place after it
pub record Tells (b : List ℕ) (o : Told) (t : Token) (p : Place) : Type 0 where
  pub token : (q : Place) → token_of b q o ≡ t
  pub next : place_of b o ≡ p

-- ---- the tree line

pub tree-good : (b : List ℕ) (o : Option (Id × List ℕ)) (p : ℕ) → line_read b (after_id o) ≡ Some p → Tells b (tree_told o) Tree (here p ParentLines)
tree-good b None p e = let z : ◌≡◌ {A = ℕ} 0 1 = cc in absurd (omega arith)
tree-good b (Some t) p e = let n : length b - length t.1 ≡ p = cc in record { token = λ q. refl; next = ap (λ (i : ℕ). here i ParentLines) n }

pub tree-bad : (b : List ℕ) (o : Option (Id × List ℕ)) → line_read b (after_id o) ≡ None → tree_told o ≡ None
tree-bad b None e = refl
tree-bad b (Some t) e = let z : ◌≡◌ {A = ℕ} 0 1 = cc in absurd (omega arith)

-- ---- a parent line: its reading r, and the test r of it

pub parent-there : {x : ObjectId} (o : Option (Id × List ℕ)) (other : Told) (b : List ℕ) (q : Place) → id_read o ≡ Some x → Parent x ≡ token_of b q (parent_told o other)
parent-there None other b q e = no-some e
parent-there (Some t) other b q e = cc

pub parent-not : (o : Option (Id × List ℕ)) (other : Told) → id_read o ≡ None → parent_told o other ≡ other
parent-not None other e = refl
parent-not (Some t) other e = no-some (sym e)

pub parent-next : (w : ℕ) (b : List ℕ) (i : ℕ) (other : Told) {r : _} → r ≡ is_some (parent_at w b i) → r ≡ true
    → here (i + parent_size w) ParentLines ≡ place_of b (parent_told (id_line w parent_word (drop i b)) other)
parent-next w b i other e g =
    let t = parent-good w b i e g in
    let fits = parent-fits w b i e g in
    let n : length b - length (drop (i + parent_size w) b) ≡ i + parent_size w = simp length-drop (omega arith) in
    ap (λ (j : ℕ). here j ParentLines) (sym n) ∙ ap (λ (o : Option (Id × List ℕ)). place_of b (parent_told o other)) (sym t.1)

-- ---- the author line

pub author-good : (b : List ℕ) (o : Option (List ℕ)) (p : ℕ) → line_read b o ≡ Some p → Tells b (author_told o) Author (here p CommitterLine)
author-good b None p e = let z : ◌≡◌ {A = ℕ} 0 1 = cc in absurd (omega arith)
author-good b (Some r) p e = let n : length b - length r ≡ p = cc in record { token = λ q. refl; next = ap (λ (i : ℕ). here i CommitterLine) n }

pub author-bad : (b : List ℕ) (o : Option (List ℕ)) → line_read b o ≡ None → author_told o ≡ None
author-bad b None e = refl
author-bad b (Some r) e = let z : ◌≡◌ {A = ℕ} 0 1 = cc in absurd (omega arith)

-- ---- the committer line

pub committer_good : (o : Option Stamped) (s : Stamp) → stamp_read o ≡ Some s → committer_told o ≡ Some (Committer s, [])
committer_good None s e = let z : ◌≡◌ {A = ℕ} 0 1 = cc in absurd (omega arith)
committer_good (Some v) s e = let z : stamp_given v ≡ s = cc in ap (λ (x : Stamp). Some (Committer x, [])) z

pub committer_bad : (o : Option Stamped) → stamp_read o ≡ None → committer_told o ≡ None
committer_bad None e = refl
committer_bad (Some v) e = let z : ◌≡◌ {A = ℕ} 0 1 = cc in absurd (omega arith)

-- with or without it nothing more is read
pub committer_last : (b : List ℕ) (o : Option Stamped) → place_of b (committer_told o) ≡ ended b
committer_last b None = refl
committer_last b (Some s) = let n : length b - 0 ≡ length b = omega arith in ap (λ (i : ℕ). here i Done) n
