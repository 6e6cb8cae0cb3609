-- The two readings of a header agree: the header that crate `object` reads is what the tokens come to, since at a place where parents may
-- stand the tokens go on with parents as long as good parent lines stand there. And the tokens meet no bad line and reach a committer just
-- where the header's four parts are good, since a place lets no other line stand. Assumes nothing.
use Rattle.object.specs.declared.HeaderError.TheVariants.{Bad as BadHeader}
use Rattle.std.specs.Prelude.{None, Option, Some, Err}
use mathlib.Core.Path.{◌≡◌, refl, sym, ◌∙◌, ap, subst}
use Prim.Native.Nat.{ℕ, zero, suc, ◌+◌, ◌-◌, ◌≤◌}
use mathlib.Core.Bool.{Bool, true, false, ◌&&◌}
use mathlib.Core.List.{List, [], ◌∷◌}
use native.Mathlib.Omega.{arith}
use lib.ListN.{length, take, drop, length-drop, drop_of_length-le}
use lib.Seq.{drop-drop}
use lib.IntN.{ℤ}
use lib.Dec.{eqb, ltb, leb}
use borrow.Author.Tests.{eqb-true, ltb-true, ltb-false, leb-true, leb-false, lt-ltb, le-ltb, le-leb, lt-leb}
use Rattle.hash.specs.Bytes.{Id, pick}
use Rattle.hash.proofs.Tests.{by_cases, clash, no-some, some_in}
use Rattle.object.specs.Ids.{id_room, padded, id_in}
use Rattle.object.specs.Header.{tree_size, parent_size, is_some, strip, id_line, tree_word, parent_word, word_line, author_line, Stamped, stamped, committer_line, parent_lines, skip_parents, after_author, after_tree, stamp_of, seconds_in, zone_in, seconds_of, zone_of, most, Header, with_tree, with_parents, header}
use Rattle.object.specs.Read.{read_as, reading_of}
use Rattle.object.proofs.IdBytes.{id_in_lem}
use Rattle.object.proofs.Lines.{id_line-some, too_short}
use Rattle.object.proofs.Parents.{skip_stops, skip_line}
use Rattle.object.proofs.PersonLines.{author-ends}
use Rattle.object.proofs.Stamps.{stamp_whole}
use Rattle.object.specs.declared.ObjectId.{ObjectId}
use Rattle.commititer.specs.Token.{here, start, parent_token, committer_told, author_told, line_in, line_at, missing, token_of, ended, place_of, token_at, after_token}
use Rattle.commititer.specs.Tokens.{tokens_from, tokens, is_tree, is_parent, is_author, id_told, stamp_told, parents_of, past_parents, author_next, committer_next, persons_next, after_tree_token, header_of, Agrees, no_bad, has_committer, all_good, GoodTokens, is_readable, ReadableTokens}
use Rattle.commititer.specs.declared.State.TheVariants.{Parents as ParentLines, Committer as CommitterLine, Done}
use Rattle.commititer.specs.declared.Token.{Token}
use Rattle.commititer.specs.declared.Token.TheVariants.{Tree, Parent, Author, Committer, Bad, End}

-- ---- a committer reading

-- there are seconds just where there is a reading
some-seconds : {o p : Option Stamped} → o ≡ p → is_some (seconds_in o) ≡ is_some p
some-seconds {o} {p} e = ap (λ (q : Option Stamped). is_some (seconds_in q)) e ∙ go p
  where
    go : (q : Option Stamped) → is_some (seconds_in q) ≡ is_some q
    go None = refl
    go (Some s) = refl

-- ---- no line begins with two words

two_words : (p q : ℕ) (ps qs b r : List ℕ) → eqb q p ≡ false → strip (p ∷ ps) b ≡ Some r → strip (q ∷ qs) b ≡ None
unfolding strip
two_words p q ps qs [] r n e = no-some e
two_words p q ps qs (x ∷ xs) r n e =
    by_cases (eqb p x)
    (λ h. let z : p ≡ x = eqb-true p x h in let m : eqb q x ≡ false = subst (λ (y : ℕ). eqb q y ≡ false) z n in rw m)
    (λ h. no-some (rw h at e))

pub parent_no_author : (w : ℕ) (b : List ℕ) (t : Id × List ℕ) → id_line w parent_word b ≡ Some t → author_line b ≡ None
unfolding author_line word_line
parent_no_author w b t e = rw (two_words 112 97 _ _ b _ refl (id_line-some w parent_word b t e).word)

-- ---- tests and lists

take_none : (m : ℕ) → take {A = Id} m [] ≡ []
take_none zero = refl
take_none (suc m) = refl

ltb_both : (m n : ℕ) → ltb (suc m) (suc n) ≡ ltb m n
ltb_both m n = by_cases (ltb m n) (λ h. rw h (lt-ltb (suc m) (suc n) (omega (arith, ltb-true m n h)))) (λ h. rw h (le-ltb (suc m) (suc n) (omega (arith, ltb-false m n h))))

leb_both : (m n : ℕ) → leb (suc m) (suc n) ≡ leb m n
leb_both m n = by_cases (leb m n) (λ h. rw h (le-leb (suc m) (suc n) (omega (arith, leb-true m n h)))) (λ h. rw h (lt-leb (suc m) (suc n) (omega (arith, leb-false m n h))))

-- where no good line stands: neither of the four
pub record Missing (t : Token) : Type 0 where
  pub tree : is_tree t ≡ false
  pub parent : is_parent t ≡ false
  pub author : is_author t ≡ false
  pub stamp : stamp_told t ≡ None

pub is-missing : (b : List ℕ) (i : ℕ) → Missing (missing b i)
is-missing b i =
    by_cases (ltb i (length b))
    (λ h. subst (λ (c : Bool). Missing (pick c Bad End)) (sym h) (record { tree = refl; parent = refl; author = refl; stamp = refl }))
    (λ h. subst (λ (c : Bool). Missing (pick c Bad End)) (sym h) (record { tree = refl; parent = refl; author = refl; stamp = refl }))

-- no parent, no id
pub no-id : (t : Token) → is_parent t ≡ false → id_told t ≡ None
no-id Tree h = refl
no-id (Parent x) h = clash refl h
no-id Author h = refl
no-id (Committer s) h = refl
no-id Bad h = refl
no-id End h = refl

-- a parent has one
pub a-parent : (t : Token) → is_parent t ≡ true → (x : ObjectId) × (t ≡ Parent x)
a-parent Tree h = clash h refl
a-parent (Parent x) h = (x, refl)
a-parent Author h = clash h refl
a-parent (Committer s) h = clash h refl
a-parent Bad h = clash h refl
a-parent End h = clash h refl

-- nothing is left past the end
past_end : (b : List ℕ) (i : ℕ) → length b ≤ i + 0 → drop i b ≡ []
past_end b i h = let l : length b ≤ i = omega arith in drop_of_length-le b l

-- ---- the tokens from a place on, by the line that may stand there

module _ (w : ℕ) (b : List ℕ) where
  -- where none may stand there is no bad line and no committer
  done-clean : (n i : ℕ) → no_bad (tokens_from n w b (here i Done)) ≡ true
  unfolding tokens_from no_bad token_at after_token line_at line_in
  done-clean zero i = refl
  done-clean (suc n) i = done-clean n (length b)

  done-empty : (n i : ℕ) → has_committer (tokens_from n w b (here i Done)) ≡ false
  unfolding tokens_from has_committer token_at after_token line_at line_in
  done-empty zero i = refl
  done-empty (suc n) i = done-empty n (length b)

  -- nor after a line that is not there
  stopped : (n i : ℕ) → all_good (missing b i ∷ tokens_from n w b (ended b)) ≡ false
  unfolding no_bad has_committer
  stopped n i =
      by_cases (ltb i (length b))
      (λ h. rw h)
      (λ h. rw (h, done-clean n (length b), done-empty n (length b)))

  -- the committer line
  committer-next : (n i : ℕ) → length b ≤ i + n → committer_next (tokens_from n w b (here i CommitterLine)) ≡ committer_line (drop i b)
  unfolding tokens_from token_at line_at line_in committer_line word_line strip
  committer-next zero i h = rw (past_end b i h)
  committer-next (suc n) i h = go (committer_line (drop i b))
    where
      go : (o : Option Stamped) → stamp_told (token_of b (here i CommitterLine) (committer_told o)) ≡ o
      go None = (is-missing b i).stamp
      go (Some s) = refl

  committer_good : (n i : ℕ) → all_good (tokens_from n w b (here i CommitterLine)) ≡ is_some (committer_next (tokens_from n w b (here i CommitterLine)))
  unfolding tokens_from token_at after_token line_at line_in no_bad has_committer
  committer_good zero i = refl
  committer_good (suc n) i = go (committer_line (drop i b))
    where
      go : (o : Option Stamped) → all_good (token_of b (here i CommitterLine) (committer_told o) ∷ tokens_from n w b (place_of b (committer_told o))) ≡ is_some (stamp_told (token_of b (here i CommitterLine) (committer_told o)))
      go None = stopped n i ∙ sym (ap is_some (is-missing b i).stamp)
      go (Some s) = rw (done-clean n (length b - 0))

  -- a parent line: its token, and the place after it
  parent-step : (n i : ℕ) (t : Id × List ℕ) → id_line w parent_word (drop i b) ≡ Some t
      → (tokens_from (suc n) w b (here i ParentLines) ≡ parent_token t.0 ∷ tokens_from n w b (here (i + parent_size w) ParentLines)) × (t.1 ≡ drop (i + parent_size w) b) × (i + parent_size w ≤ length b)
  unfolding tokens_from token_at after_token line_at line_in
  parent-step n i t g =
      let l = id_line-some w parent_word (drop i b) t g in
      let d : length (drop i b) ≡ length b - i = length-drop i b in
      let k : length b - length t.1 ≡ i + parent_size w = omega (arith, l.long) in
      (rw (g, k), l.rest ∙ drop-drop (parent_size w) i b, omega (arith, l.long))

  -- the author line where no parent line stands: its token, and the committer's after it
  module _ (n i : ℕ) (g : id_line w parent_word (drop i b) ≡ None) where
    not-parent : is_parent (token_at w b (here i ParentLines)) ≡ false
    unfolding token_at line_at line_in
    not-parent = rw g (go (author_line (drop i b)))
      where
        go : (o : Option (List ℕ)) → is_parent (token_of b (here i ParentLines) (author_told o)) ≡ false
        go None = (is-missing b i).parent
        go (Some r) = refl

    author-here : is_author (token_at w b (here i ParentLines)) ≡ is_some (author_line (drop i b))
    unfolding token_at line_at line_in
    author-here = rw g (go (author_line (drop i b)))
      where
        go : (o : Option (List ℕ)) → is_author (token_of b (here i ParentLines) (author_told o)) ≡ is_some o
        go None = (is-missing b i).author
        go (Some r) = refl

    persons-step : length b ≤ i + suc n → persons_next (tokens_from (suc n) w b (here i ParentLines)) ≡ after_author (author_line (drop i b))
    unfolding tokens_from token_at after_token line_at line_in
    persons-step h = rw g (go (author_line (drop i b)) refl)
      where
        go : (o : Option (List ℕ)) → author_line (drop i b) ≡ o
            → pick (is_author (token_of b (here i ParentLines) (author_told o))) (committer_next (tokens_from n w b (place_of b (author_told o)))) None ≡ after_author o
        go None f = rw (is-missing b i).author
        go (Some r) f =
            let a = author-ends b i r f in
            let k : ℕ = a.0 in
            let later_on = a.1.later in
            let inside = a.1.inside in
            let same_rest : r ≡ drop k b = some_in (sym f ∙ a.1.rest) in
            let place : length b - length r ≡ k = omega (arith, ap length same_rest ∙ length-drop k b) in
            ap (λ (j : ℕ). committer_next (tokens_from n w b (here j CommitterLine))) place
            ∙ committer-next n k (omega arith)
            ∙ ap committer_line (sym same_rest)

    persons-good : all_good (tokens_from (suc n) w b (here i ParentLines)) ≡ is_some (persons_next (tokens_from (suc n) w b (here i ParentLines)))
    unfolding tokens_from token_at after_token line_at line_in no_bad has_committer
    persons-good = rw g (go (author_line (drop i b)))
      where
        go : (o : Option (List ℕ))
            → all_good (token_of b (here i ParentLines) (author_told o) ∷ tokens_from n w b (place_of b (author_told o)))
            ≡ is_some (pick (is_author (token_of b (here i ParentLines) (author_told o))) (committer_next (tokens_from n w b (place_of b (author_told o)))) None)
        go None = stopped n i ∙ sym (ap (λ (c : Bool). is_some (pick c (committer_next (tokens_from n w b (ended b))) None)) (is-missing b i).author)
        go (Some r) = committer_good n (length b - length r)

  -- where parents may stand: the tokens are all good just where an author and then a committer follow the parents
  parents-good : (n i : ℕ) → all_good (tokens_from n w b (here i ParentLines)) ≡ is_some (persons_next (past_parents (tokens_from n w b (here i ParentLines))))
  unfolding tokens_from past_parents no_bad has_committer
  parents-good zero i = refl
  parents-good (suc n) i = go (λ j. parents-good n j) (id_line w parent_word (drop i b)) refl
    where
      go : ((j : ℕ) → all_good (tokens_from n w b (here j ParentLines)) ≡ is_some (persons_next (past_parents (tokens_from n w b (here j ParentLines))))) → (o : Option (Id × List ℕ)) → id_line w parent_word (drop i b) ≡ o
          → all_good (tokens_from (suc n) w b (here i ParentLines)) ≡ is_some (persons_next (past_parents (tokens_from (suc n) w b (here i ParentLines))))
      go rec None g =
          let all : past_parents (tokens_from (suc n) w b (here i ParentLines)) ≡ tokens_from (suc n) w b (here i ParentLines) = rw (not-parent n i g) in
          persons-good n i g ∙ ap (λ (ts : List Token). is_some (persons_next ts)) (sym all)
      go rec (Some t) g = subst (λ (ts : List Token). all_good ts ≡ is_some (persons_next (past_parents ts))) (sym (parent-step n i t g).0) (rec (i + parent_size w))

-- ---- a list of tokens ts and the lines c that it comes from: up to m parents, and what follows them all

record Same (w m : ℕ) (c : List ℕ) (ts : List Token) : Type 0 where
  ids : (parent_lines w m c).ids ≡ take m (parents_of w ts)
  more : (parent_lines w m c).more ≡ ltb m (length (parents_of w ts))
  author : is_some (author_line (parent_lines w m c).rest) ≡ (leb (length (parents_of w ts)) m && author_next (past_parents ts))
  stamp : (k : ℕ) → length c ≤ k → after_author (author_line (skip_parents w k c)) ≡ persons_next (past_parents ts)

-- where no parent line stands
module _ (w : ℕ) (c : List ℕ) (ts : List Token) (stop : id_line w parent_word c ≡ None) (none_of : parents_of w ts ≡ []) (all_of : past_parents ts ≡ ts) where
  stop-lines : (m : ℕ) → parent_lines w m c ≡ record { ids = []; rest = c; more = false }
  unfolding parent_lines
  stop-lines zero = rw stop
  stop-lines (suc m) = rw stop

  same_stop : (m : ℕ) → author_next ts ≡ is_some (author_line c) → persons_next ts ≡ after_author (author_line c) → Same w m c ts
  same_stop m f g =
      record {
        ids = rw (stop-lines m, none_of) (sym (take_none m));
        more = rw (stop-lines m, none_of) (sym (le-ltb m 0 (omega arith)));
        author = rw (stop-lines m, none_of, all_of, f, le-leb 0 m (omega arith));
        stamp = λ k h. rw (skip_stops w k c stop, all_of) (sym g);
      }

-- where one stands, and the lines after it
module _ (w : ℕ) (small : w ≤ id_room) (c : List ℕ) (t : Id × List ℕ) (e : id_line w parent_word c ≡ Some t) (ts : List Token) (further : (m : ℕ) → Same w m t.1 ts) where
  its_id : id_in w (padded t.0) ≡ t.0
  its_id = id_in_lem w t.0 (id_line-some w parent_word c t e).width small

  same_more : (m : ℕ) → Same w m c (parent_token t.0 ∷ ts)
  unfolding parent_lines parents_of past_parents
  same_more zero =
      record {
        ids = refl;
        more = rw e (sym (lt-ltb 0 (suc (length (parents_of w ts))) (omega arith)));
        author = rw (parent_no_author w c t e, lt-leb (suc (length (parents_of w ts))) 0 (omega arith));
        stamp = after;
      }
    where
      after : (k : ℕ) → length c ≤ k → after_author (author_line (skip_parents w k c)) ≡ persons_next (past_parents ts)
      after k h = rw (skip_line w k c t h e) ((further 0).stamp k (omega (arith, (id_line-some w parent_word c t e).long)))
  same_more (suc m) =
      record {
        ids = rw (e, its_id) (ap (λ (l : List Id). t.0 ∷ l) (further m).ids);
        more = rw (e, ltb_both m (length (parents_of w ts))) (further m).more;
        author = rw (e, leb_both (length (parents_of w ts)) m) (further m).author;
        stamp = λ k h. rw (skip_line w k c t h e) ((further 0).stamp k (omega (arith, (id_line-some w parent_word c t e).long)));
      }

module _ (w : ℕ) (small : w ≤ id_room) (b : List ℕ) where
  same : (n i : ℕ) → length b ≤ i + n → (m : ℕ) → Same w m (drop i b) (tokens_from n w b (here i ParentLines))
  unfolding tokens_from parents_of past_parents author_line word_line strip
  same zero i h m =
      same_stop w (drop i b) [] (too_short w parent_word b i (omega arith)) refl refl m (rw (past_end b i h)) (rw (past_end b i h))
  same (suc n) i h m = go (λ j l. same n j l) (id_line w parent_word (drop i b)) refl
    where
      go : ((j : ℕ) → length b ≤ j + n → (m : ℕ) → Same w m (drop j b) (tokens_from n w b (here j ParentLines))) → (o : Option (Id × List ℕ))
          → id_line w parent_word (drop i b) ≡ o → Same w m (drop i b) (tokens_from (suc n) w b (here i ParentLines))
      go rec None g =
          let p = not-parent w b n i g in
          same_stop w (drop i b) (tokens_from (suc n) w b (here i ParentLines)) g (rw (no-id (token_at w b (here i ParentLines)) p)) (rw p) m (author-here w b n i g) (persons-step w b n i g h)
      go rec (Some t) g =
          let p = parent-step w b n i t g in
          let fits = p.2 in
          let further : (k : ℕ) → Same w k t.1 (tokens_from n w b (here (i + parent_size w) ParentLines)) = λ k.
          subst (λ (c : List ℕ). Same w k c (tokens_from n w b (here (i + parent_size w) ParentLines))) (sym p.1) (rec (i + parent_size w) (omega arith) k) in
          subst (λ (ts : List Token). Same w m (drop i b) ts) (sym p.0) (same_more w small (drop i b) t g (tokens_from n w b (here (i + parent_size w) ParentLines)) further m)

-- ---- the whole header

-- the tree line: its token, and the place after it
pub tree-step : (w : ℕ) (b : List ℕ) (t : Id × List ℕ) → id_line w tree_word b ≡ Some t → (token_at w b start ≡ Tree) × (after_token w b start ≡ here (tree_size w) ParentLines)
unfolding token_at after_token line_at line_in
tree-step w b t e =
    let n : length b - length t.1 ≡ tree_size w = omega (arith, (id_line-some w tree_word b t e).long) in
    (rw e, rw (e, n))

pub no-tree : (w : ℕ) (b : List ℕ) → id_line w tree_word b ≡ None → (token_at w b start ≡ missing b 0) × (after_token w b start ≡ ended b)
unfolding token_at after_token line_at line_in
no-tree w b e = (rw e, rw e)

-- the committer reading by the tokens after a good tree line
stamp_after : (w : ℕ) → w ≤ id_room → (b : List ℕ) (t : Id × List ℕ) → id_line w tree_word b ≡ Some t → stamp_of w b ≡ persons_next (past_parents (tokens_from (length b - 1) w b (here (tree_size w) ParentLines)))
unfolding stamp_of
stamp_after w small b t e =
    let l = id_line-some w tree_word b t e in
    let rest : t.1 ≡ drop (tree_size w) b = l.rest in
    let s = same w small b (length b - 1) (tree_size w) (omega arith) most in
    rw (e, rest) (s.stamp (length b) (simp length-drop (omega arith)))

pub after-tree : (w : ℕ) → w ≤ id_room → (b : List ℕ) (t : Id × List ℕ) → id_line w tree_word b ≡ Some t → header w b ≡ after_tree_token w (tokens_from (length b - 1) w b (here (tree_size w) ParentLines))
unfolding header seconds_of zone_of
after-tree w small b t e =
    let rest : t.1 ≡ drop (tree_size w) b = (id_line-some w tree_word b t e).rest in
    let s : Same w most (drop (tree_size w) b) (tokens_from (length b - 1) w b (here (tree_size w) ParentLines)) = same w small b (length b - 1) (tree_size w) (omega arith) most in
    let z = stamp_after w small b t e in
    ap (with_tree w b) e
    ∙ ap (λ (c : List ℕ). with_parents w b (parent_lines w most c)) rest
    ∙ (λ k. record { tree = true; ids = s.ids k; crowded = s.more k; author = s.author k; seconds = seconds_in (z k); zone = zone_in (z k) })

pub header_by_tokens : (w : ℕ) → w ≤ id_room → (b : List ℕ) → Agrees w b
unfolding tokens tokens_from header id_line strip
header_by_tokens w small [] = refl
header_by_tokens w small (x ∷ xs) = go (id_line w tree_word (x ∷ xs)) refl
  where
    go : (o : Option (Id × List ℕ)) → id_line w tree_word (x ∷ xs) ≡ o → header_of w (tokens w (x ∷ xs)) ≡ header w (x ∷ xs)
    go None e = rw ((no-tree w (x ∷ xs) e).0, (is-missing (x ∷ xs) 0).tree) (sym (ap (with_tree w (x ∷ xs)) e))
    go (Some t) e =
        let s = tree-step w (x ∷ xs) t e in
        let n : suc (length xs) - 1 ≡ length xs = omega arith in
        rw (s.0, s.1) (sym (rw n at (after-tree w small (x ∷ xs) t e)))

pub good-tokens : (w : ℕ) → w ≤ id_room → (b : List ℕ) → GoodTokens w b
unfolding tokens tokens_from no_bad has_committer seconds_of stamp_of id_line strip
good-tokens w small [] = refl
good-tokens w small (x ∷ xs) = go (id_line w tree_word (x ∷ xs)) refl
  where
    go : (o : Option (Id × List ℕ)) → id_line w tree_word (x ∷ xs) ≡ o → all_good (tokens w (x ∷ xs)) ≡ is_some (seconds_of w (x ∷ xs))
    go None e = let s = no-tree w (x ∷ xs) e in rw (s.0, s.1) (stopped w (x ∷ xs) (length xs) 0 ∙ sym (ap (λ (o : Option (Id × List ℕ)). is_some (seconds_in (after_tree w (suc (length xs)) o))) e))
    go (Some t) e =
        let s = tree-step w (x ∷ xs) t e in
        let n : suc (length xs) - 1 ≡ length xs = omega arith in
        rw (s.0, s.1) (parents-good w (x ∷ xs) (length xs) (tree_size w) ∙ sym (some-seconds (rw n at (stamp_after w small (x ∷ xs) t e))))

-- ---- readable, by the tokens

-- where an author and a committer come next, an author does
persons_author : (ts : List Token) → (author_next ts && is_some (persons_next ts)) ≡ is_some (persons_next ts)
persons_author [] = refl
persons_author (t ∷ ts) = by_cases (is_author t) (λ h. rw h) (λ h. rw h)

read_some : (n : ℕ) (a : Bool) (o : Option Stamped) → is_readable (pick a (read_as n o) (Err BadHeader)) ≡ (a && is_some o)
read_some n true None = refl
read_some n true (Some s) = refl
read_some n false o = refl

and_no : (a : Bool) → (a && false) ≡ false
and_no true = refl
and_no false = refl

and_yes : (a : Bool) → (a && true) ≡ a
and_yes true = refl
and_yes false = refl

module _ (w : ℕ) (ts : List Token) where
  few : ltb most (length (parents_of w ts)) ≡ false → leb (length (parents_of w ts)) most ≡ true
  few h = le-leb (length (parents_of w ts)) most (ltb-false most (length (parents_of w ts)) h)

  many : ltb most (length (parents_of w ts)) ≡ true → leb (length (parents_of w ts)) most ≡ false
  many h = lt-leb (length (parents_of w ts)) most (ltb-true most (length (parents_of w ts)) h)

  readable_of : is_readable (reading_of (after_tree_token w ts)) ≡ (is_some (persons_next (past_parents ts)) && leb (length (parents_of w ts)) most)
  unfolding reading_of
  readable_of =
      by_cases (ltb most (length (parents_of w ts)))
      (λ h. rw (h, many h) (sym (and_no (is_some (persons_next (past_parents ts))))))
      (λ h.
      rw (h, few h)
      (read_some (length (take most (parents_of w ts))) (author_next (past_parents ts)) (stamped (seconds_in (persons_next (past_parents ts))) (zone_in (persons_next (past_parents ts))))
      ∙ ap (λ (o : Option Stamped). author_next (past_parents ts) && is_some o) (stamp_whole (persons_next (past_parents ts)))
      ∙ persons_author (past_parents ts)
      ∙ sym (and_yes (is_some (persons_next (past_parents ts))))))

pub readable_by_tokens : (w : ℕ) → w ≤ id_room → (b : List ℕ) → ReadableTokens w b
unfolding tokens tokens_from reading_of header seconds_of stamp_of id_line strip no_bad has_committer
readable_by_tokens w small [] = refl
readable_by_tokens w small (x ∷ xs) = go (id_line w tree_word (x ∷ xs)) refl
  where
    go : (o : Option (Id × List ℕ)) → id_line w tree_word (x ∷ xs) ≡ o → ReadableTokens w (x ∷ xs)
    go None e =
        let a : all_good (tokens w (x ∷ xs)) ≡ false = good-tokens w small (x ∷ xs) ∙ ap (λ (o : Option (Id × List ℕ)). is_some (seconds_in (after_tree w (suc (length xs)) o))) e in
        ap (λ (o : Option (Id × List ℕ)). is_readable (reading_of (with_tree w (x ∷ xs) o))) e
        ∙ sym (ap (λ (c : Bool). c && leb (length (parents_of w (drop 1 (tokens w (x ∷ xs))))) most) a)
    go (Some t) e =
        let ts : List Token = tokens_from (length xs) w (x ∷ xs) (here (tree_size w) ParentLines) in
        let n : suc (length xs) - 1 ≡ length xs = omega arith in
        let h : header w (x ∷ xs) ≡ after_tree_token w ts = rw n at (after-tree w small (x ∷ xs) t e) in
        let a : all_good (tokens w (x ∷ xs)) ≡ is_some (persons_next (past_parents ts)) = good-tokens w small (x ∷ xs) ∙ some-seconds (rw n at (stamp_after w small (x ∷ xs) t e)) in
        let r : drop 1 (tokens w (x ∷ xs)) ≡ ts = ap (tokens_from (length xs) w (x ∷ xs)) (tree-step w (x ∷ xs) t e).1 in
        ap (λ (k : Header). is_readable (reading_of k)) h
        ∙ readable_of w ts
        ∙ sym (ap (λ (c : Bool). c && leb (length (parents_of w (drop 1 (tokens w (x ∷ xs))))) most) a ∙ ap (λ (us : List Token). is_some (persons_next (past_parents ts)) && leb (length (parents_of w us)) most) r)
