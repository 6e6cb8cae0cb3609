-- The tokens of a body by its header: at the start a tree just where the header has one; and after a good tree line and k of the header's
-- parents the next of them, or where there are no more the author, unless a parent too many stands there. For whoever reads a body by
-- `read_token` at `start` and at `parents_place`. Assumes nothing.
use Rattle.std.specs.Prelude.{◌≢◌, None, Option, Some, is_some as is_there}
use mathlib.Core.Path.{◌≡◌, refl, sym, ◌∙◌, ap}
use Prim.Native.Nat.{ℕ, ◌+◌, ◌*◌, ◌≤◌, ◌<◌}
use mathlib.Core.Bool.{Bool, true, false}
use mathlib.Core.List.{List, []}
use native.Mathlib.Omega.{arith}
use lib.ListN.{length, drop, get_or}
use Rattle.hash.specs.Bytes.{Id, if_some, set_down}
use Rattle.object.specs.declared.ObjectId.{ObjectId}
use Rattle.object.specs.Ids.{id_room, id_in}
use Rattle.object.specs.Header.{tree_size, parent_size, is_some, id_line, tree_word, parent_word, author_line, most, with_tree, header}
use Rattle.object.specs.Read.{id_down, line_read, tree_at, parent_at}
use Rattle.object.proofs.IdBytes.{id_in_lem}
use Rattle.object.proofs.Lines.{id_line-some, good-is, is_none}
use Rattle.object.proofs.PersonLines.{author-next, author-bad}
use Rattle.object.proofs.Headers.{tree-good, tree-bad, header_lines, parent-taken, parent-stop, parent-crowd}
use Rattle.commititer.specs.Token.{here, start, parent_token, parent_told, author_told, line_in, line_at, token_of, token_at, parents_place}
use Rattle.commititer.specs.Tokens.{is_tree, is_parent, is_author, id_told, parent_down}
use Rattle.commititer.specs.declared.State.TheVariants.{Parents as ParentLines}
use Rattle.commititer.specs.declared.Token.{Token}
use Rattle.commititer.proofs.ParentsPlace.{place-few}
use Rattle.commititer.specs.declared.Token.TheVariants.{Tree, Parent, Author, Committer, Bad, End}
use Rattle.commititer.proofs.Agree.{is-missing, no-id, parent_no_author, tree-step, no-tree}

-- ---- at the start

pub tree-told : (w : ℕ) (b : List ℕ) {t : Token} → t ≡ token_at w b start → is_tree t ≡ (header w b).tree
unfolding header
tree-told w b {t} read = go (id_line w tree_word b) refl
  where
    go : (o : Option (Id × List ℕ)) → id_line w tree_word b ≡ o → is_tree t ≡ (with_tree w b (id_line w tree_word b)).tree
    go None e = ap is_tree (read ∙ (no-tree w b e).0) ∙ (is-missing b 0).tree ∙ sym (ap (λ (o : Option (Id × List ℕ)). (with_tree w b o).tree) e)
    go (Some u) e = ap is_tree (read ∙ (tree-step w b u e).0) ∙ sym (ap (λ (o : Option (Id × List ℕ)). (with_tree w b o).tree) e)

-- a tree line is read there just where a tree stands
pub tree-here : (w : ℕ) (b : List ℕ) (o : Option ℕ) → o ≡ tree_at w b 0 → is_there o ≡ is_tree (token_at w b start)
tree-here w b None e = sym (tree-told w b refl ∙ tree-bad w b (sym e))
tree-here w b (Some p) e = sym (tree-told w b refl ∙ (tree-good w b p (sym e)).0)

-- ---- where parents may stand: a parent where a parent line stands, else an author where an author line does

module _ (w : ℕ) (b : List ℕ) (i : ℕ) where
  pub here-parent : is_parent (token_at w b (here i ParentLines)) ≡ is_some (id_line w parent_word (drop i b))
  unfolding token_at line_at line_in
  here-parent = go (id_line w parent_word (drop i b)) (author_line (drop i b))
    where
      go : (o : Option (Id × List ℕ)) (p : Option (List ℕ)) → is_parent (token_of b (here i ParentLines) (parent_told o (author_told p))) ≡ is_some o
      go None None = (is-missing b i).parent
      go None (Some r) = refl
      go (Some t) p = refl

  here-author : id_line w parent_word (drop i b) ≡ None → is_author (token_at w b (here i ParentLines)) ≡ is_some (author_line (drop i b))
  unfolding token_at line_at line_in
  here-author e = rw e (go (author_line (drop i b)))
    where
      go : (p : Option (List ℕ)) → is_author (token_of b (here i ParentLines) (author_told p)) ≡ is_some p
      go None = (is-missing b i).author
      go (Some r) = refl

  here-id : (x : Id) (r : List ℕ) → id_line w parent_word (drop i b) ≡ Some (x, r) → token_at w b (here i ParentLines) ≡ parent_token x
  unfolding token_at line_at line_in
  here-id x r e = rw e

  -- no line is both
  pub author-here : is_author (token_at w b (here i ParentLines)) ≡ is_some (author_line (drop i b))
  author-here = go (id_line w parent_word (drop i b)) refl
    where
      go : (o : Option (Id × List ℕ)) → id_line w parent_word (drop i b) ≡ o → is_author (token_at w b (here i ParentLines)) ≡ is_some (author_line (drop i b))
      go None e = here-author e
      go (Some t) e = ap is_author (here-id t.0 t.1 e) ∙ sym (ap is_some (parent_no_author w (drop i b) t e))

  -- an author line is read there just where an author stands
  pub author-read : (o : Option ℕ) → o ≡ line_read b (author_line (drop i b)) → is_there o ≡ is_author (token_at w b (here i ParentLines))
  author-read None e = sym (author-here ∙ ap is_some (author-bad b i (sym e)))
  author-read (Some p) e = sym (author-here ∙ ap is_some (author-next b i p (sym e)).rest)

  -- the id that is set down is the line's
  pub parent-down : (k : ℕ) (c : List ℕ) → w ≤ id_room → id_down w k (id_line w parent_word (drop i b)) c ≡ parent_down w k (token_at w b (here i ParentLines)) c
  parent-down k c small = go (id_line w parent_word (drop i b)) refl
    where
      go : (o : Option (Id × List ℕ)) → id_line w parent_word (drop i b) ≡ o → id_down w k (id_line w parent_word (drop i b)) c ≡ parent_down w k (token_at w b (here i ParentLines)) c
      go None e =
          ap (λ (o : Option (Id × List ℕ)). id_down w k o c) e
          ∙ sym (ap (λ (q : Option ObjectId). if_some q c (λ x. set_down c (w * k) (id_in w x.bytes))) (no-id (token_at w b (here i ParentLines)) (here-parent ∙ ap is_some e)))
      go (Some t) e =
          ap (λ (o : Option (Id × List ℕ)). id_down w k o c) e
          ∙ ap (set_down c (w * k)) (sym (id_in_lem w t.0 (id_line-some w parent_word (drop i b) t e).width small))
          ∙ sym (ap (λ (r : Token). parent_down w k r c) (here-id t.0 t.1 e))

-- ---- after the tree line and k of the header's parents

module _ (w : ℕ) (small : w ≤ id_room) (b : List ℕ) (g : (header w b).tree ≡ true) (k : ℕ) where
  -- parent k
  pub parent-token : k < length (header w b).ids → token_at w b (parents_place w k) ≡ parent_token (get_or (header w b).ids k [])
  parent-token h =
      ap (token_at w b) (place-few w k small (omega (arith, (header_lines w b g).few)))
      ∙ here-id w b (tree_size w + parent_size w * k) _ _ ((header_lines w b g).each k h)

  module _ (within : k ≤ length (header w b).ids) {t : Token} (read : t ≡ token_at w b (parents_place w k)) where
    placed : t ≡ token_at w b (here (tree_size w + parent_size w * k) ParentLines)
    placed = read ∙ ap (token_at w b) (place-few w k small (omega (arith, (header_lines w b g).few)))

    is-parent : is_parent t ≡ is_some (parent_at w b (tree_size w + parent_size w * k))
    unfolding parent_at
    is-parent =
        ap is_parent placed
        ∙ here-parent w b (tree_size w + parent_size w * k)
        ∙ sym (good-is (id_line w parent_word (drop (tree_size w + parent_size w * k) b)))

    -- a parent: one of the header's, which are at most 256
    pub parent-told : k < most → is_parent t ≡ true → k < length (header w b).ids
    parent-told h e = parent-taken w b g k within is-parent h e

    -- a parent after 256: one too many
    pub crowd-told : most ≤ k → is_parent t ≡ true → (k ≡ length (header w b).ids) × ((header w b).crowded ≡ true)
    crowd-told h e = parent-crowd w b g k within is-parent h e

    -- no parent: there are no more, and an author stands there just where the header's is good
    pub stop-told : is_parent t ≡ false → (k ≡ length (header w b).ids) × ((header w b).crowded ≡ false) × (is_author t ≡ (header w b).author)
    stop-told e =
        let s = parent-stop w b g k within is-parent e in
        let i : ℕ = tree_size w + parent_size w * k in
        let n : id_line w parent_word (drop i b) ≡ None = is_none (id_line w parent_word (drop i b)) (sym (here-parent w b i) ∙ sym (ap is_parent placed) ∙ e) in (
          s.0,
          s.1,
          ap is_author placed
              ∙ here-author w b i n
              ∙ ap (λ (j : ℕ). is_some (author_line (drop (tree_size w + parent_size w * j) b))) s.0
              ∙ sym (header_lines w b g).author,
        )

-- ---- what the last arm of a match knows: the token is none of the arms before

pub not-parent : (t : Token) → ((x : ObjectId) → t ≢ Parent x) → id_told t ≡ None
not-parent Tree h = refl
not-parent (Parent x) h = absurd (h x refl)
not-parent Author h = refl
not-parent (Committer s) h = refl
not-parent Bad h = refl
not-parent End h = refl
