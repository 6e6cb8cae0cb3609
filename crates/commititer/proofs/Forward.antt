-- A reading ends: the place after a token is further on in the body, or nothing more is read from it. Assumes nothing.
use Rattle.std.specs.Prelude.{None, Option, Some}
use mathlib.Core.Path.{◌≡◌, refl, sym, ◌∙◌, ap}
use Prim.Native.Nat.{ℕ, suc, ◌-◌, ◌<◌}
use mathlib.Core.Bool.{false}
use mathlib.Core.List.{List}
use native.Mathlib.Omega.{arith}
use lib.ListN.{length, drop, length-drop}
use Rattle.hash.specs.Bytes.{Id, pick}
use Rattle.hash.proofs.Tests.{some_in, clash}
use Rattle.object.specs.Header.{id_line, tree_word, parent_word, author_line, Stamped, committer_line}
use Rattle.object.proofs.Lines.{id_line-some}
use Rattle.object.proofs.PersonLines.{author-ends}
use Rattle.commititer.specs.Token.{here, is_done, tree_told, committer_told, author_told, parent_told, line_in, line_at, place_of, after_token}
use Rattle.commititer.specs.declared.Place.{Place}
use Rattle.commititer.specs.declared.State.{State}
use Rattle.commititer.specs.declared.State.TheVariants.{Tree as TreeLine, Parents as ParentLines, Committer as CommitterLine, Done}

-- how much is left to read
abbrev pub left : List ℕ → Place → ℕ
left b p = pick (is_done p.state) 0 (suc (length b - p.at))

module _ (w : ℕ) (b : List ℕ) (i : ℕ) where
  -- after a line with an id, and after the author line
  by-id : (text : List ℕ) (t : Id × List ℕ) → id_line w text (drop i b) ≡ Some t → left b (here (length b - length t.1) ParentLines) < suc (length b - i)
  by-id text t e =
      let l = (id_line-some w text (drop i b) t e).long in
      let d = length-drop i b in
      omega arith

  by-author : (o : Option (List ℕ)) → author_line (drop i b) ≡ o → left b (place_of b (author_told o)) < suc (length b - i)
  by-author None e = omega arith
  by-author (Some r) e =
      let a = author-ends b i r e in
      let k : ℕ = a.0 in
      let s : r ≡ drop k b = some_in (sym e ∙ a.1.rest) in
      let d : length r ≡ length b - k = ap length s ∙ length-drop k b in
      let later_on = a.1.later in
      let within = a.1.inside in
      omega arith

  by-tree : (o : Option (Id × List ℕ)) → id_line w tree_word (drop i b) ≡ o → left b (place_of b (tree_told o)) < suc (length b - i)
  by-tree None e = omega arith
  by-tree (Some t) e = by-id tree_word t e

  by-parent : (o : Option (Id × List ℕ)) → id_line w parent_word (drop i b) ≡ o → left b (place_of b (parent_told o (author_told (author_line (drop i b))))) < suc (length b - i)
  by-parent None e = by-author (author_line (drop i b)) refl
  by-parent (Some t) e = by-id parent_word t e

  by-committer : (o : Option Stamped) → left b (place_of b (committer_told o)) < suc (length b - i)
  by-committer None = omega arith
  by-committer (Some s) = omega arith

  by_state : (s : State) → is_done s ≡ false → left b (after_token w b (here i s)) < suc (length b - i)
  unfolding after_token line_at line_in
  by_state TreeLine e = by-tree (id_line w tree_word (drop i b)) refl
  by_state ParentLines e = by-parent (id_line w parent_word (drop i b)) refl
  by_state CommitterLine e = by-committer (committer_line (drop i b))
  by_state Done e = clash refl e

pub moves-on : (w : ℕ) (b : List ℕ) (p : Place) → is_done p.state ≡ false → left b (after_token w b p) < left b p
moves-on w b p e = rw e (by_state w b p.at p.state e)
