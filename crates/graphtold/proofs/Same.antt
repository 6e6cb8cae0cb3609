-- "Two books with the same ids, trees, parents and seconds give equal files": a row is made of nothing else, and levels follow from parents. Assumes nothing.
use Rattle.std.specs.Prelude.{None, Option, Some}
use mathlib.Core.Path.{◌≡◌, refl, sym, ◌∙◌, ap}
use mathlib.Core.Bool.{cond}
use mathlib.Core.List.{List, [], ◌∷◌}
use Prim.Native.Nat.{ℕ, zero, suc, ◌+◌, ◌≤◌, ◌<◌}
use native.Mathlib.Omega.{arith}
use lib.ListN.{length, get_or}
use lib.IntN.{ℤ, nat_abs}
use Rattle.hash.specs.Bytes.{Id, eq_id, if_some, width_of}
use Rattle.hash.specs.declared.Kind.{Kind}
use Rattle.idlist.specs.IdList.{id_of, find_in, IdList}
use Rattle.odb.specs.Store.{entry_ids, standing_entries}
use Rattle.odb.specs.Lookup.{entry_body}
use Rattle.commitgraph.specs.Graph.{hash_version}
use Rattle.commitid.specs.Name.{digest_of}
use Rattle.levels.specs.Levels.{Graph, level_from, level_at, level_of, most}
use Rattle.levels.specs.StoreGraph.{lines_in, lines_count, entry_of, graph_in}
use Rattle.levels.proofs.Rules.{of_fit, most-same}
use Rattle.levels.proofs.Lines.{count_none}
use Rattle.graphfile.specs.GraphFile.{graph_file}
use Rattle.graphplan.specs.StoreRows.{Writable, numbers_of, seconds_size, row_of, rows_from, rows_of}
use Rattle.graphplan.specs.Refusing.{refusal_for}
use Rattle.graphwrite.specs.Writing.{file_of}
use Rattle.graphplan.proofs.Fans.{entry-is}
use Rattle.graphplan.proofs.Wides.{readable-at, head_at}
use Rattle.graphplan.proofs.Planning.{accepted}
use Rattle.graphtold.specs.Told.{SameCommits}
use Rattle.graphtold.proofs.Unfit.{readable-body}

-- the first of n ids that is x, in two lists of the same ids
find_same : (l m : IdList) (x : Id) (n : ℕ) → ((k : ℕ) → k < n → id_of l k ≡ id_of m k) → find_in l x n ≡ find_in m x n
unfolding find_in
find_same l m x zero h = refl
find_same l m x (suc n) h =
    ap (λ (o : Option ℕ). if_some o (cond (eq_id x (id_of l n)) (Some n) None) (λ k. Some k)) (find_same l m x n (λ k d. h k (omega arith)))
    ∙ ap (λ (y : Id). if_some (find_in m x n) (cond (eq_id x y) (Some n) None) (λ k. Some k)) (h n (omega arith))

-- two graphs of n nodes with the same parents, each of them a node
level-same : (g h : Graph) (n : ℕ) → ((k : ℕ) → k < n → g.count k ≡ h.count k) → ((k j : ℕ) → k < n → j < g.count k → g.parent k j ≡ h.parent k j)
    → ((k j : ℕ) → k < n → j < g.count k → g.parent k j < n) → (f k : ℕ) → k < n → level_at g f k ≡ level_at h f k
unfolding level_at level_from
level-same g h n c p i zero k d = refl
level-same g h n c p i (suc f) k d =
    ap suc
    (most-same (λ j. level_at g f (g.parent k j)) (λ j. level_at h f (h.parent k j)) (g.count k)
    (λ j l. level-same g h n c p i f (g.parent k j) (i k j d l) ∙ ap (level_at h f) (p k j d l))
    ∙ ap (most (λ j. level_at h f (h.parent k j))) (c k d))

module _ (w : ℕ) (a b : List ℕ) (A : Writable w a (standing_entries w a)) (B : Writable w b (standing_entries w b)) (S : SameCommits w a b) where
  abbrev n : ℕ
  n = standing_entries w a

  in_b : (k : ℕ) → k < n → k < standing_entries w b
  in_b k h = omega (arith, S.many)

  ids-same : (k : ℕ) → k < n → id_of (entry_ids w a) k ≡ id_of (entry_ids w b) k
  ids-same k h = sym (entry-is w a n A k h) ∙ (S.each k h).id ∙ entry-is w b (standing_entries w b) B k (in_b k h)

  entry-same : (x : Id) → entry_of w a n x ≡ entry_of w b (standing_entries w b) x
  unfolding entry_of
  entry-same x =
      ap (λ (o : Option ℕ). if_some o n (λ k. k)) (find_same (entry_ids w a) (entry_ids w b) x n ids-same)
      ∙ ap (λ (m : ℕ). if_some (find_in (entry_ids w b) x m) m (λ k. k)) S.many

  lines_same : (k : ℕ) → k < n → (lines_in w (entry_body w a k)).ids ≡ (lines_in w (entry_body w b k)).ids
  lines_same k h =
      sym (readable-body w (entry_body w a k) (readable-at w a n A k h)).2.ids
      ∙ (S.each k h).parents
      ∙ (readable-body w (entry_body w b k) (readable-at w b (standing_entries w b) B k (in_b k h))).2.ids

  count-a : (k : ℕ) → k < n → lines_count w (entry_body w a k) ≡ length (lines_in w (entry_body w a k)).ids
  count-a k h = count_none w (entry_body w a k) (head_at w a n A k h).1.more

  count_same : (k : ℕ) → k < n → lines_count w (entry_body w a k) ≡ lines_count w (entry_body w b k)
  count_same k h =
      count-a k h
      ∙ ap length (lines_same k h)
      ∙ sym (count_none w (entry_body w b k) (head_at w b (standing_entries w b) B k (in_b k h)).1.more)

  parent-same : (k j : ℕ) → k < n → (graph_in w a).parent k j ≡ (graph_in w b).parent k j
  parent-same k j h =
      ap (λ (xs : List Id). entry_of w a n (get_or xs j [])) (lines_same k h) ∙ entry-same (get_or (lines_in w (entry_body w b k)).ids j [])

  levels-same : (k : ℕ) → k < n → level_of (graph_in w a) k ≡ level_of (graph_in w b) k
  unfolding level_of
  levels-same k h =
      level-same (graph_in w a) (graph_in w b) n count_same (λ i j d l. parent-same i j d) (of_fit (graph_in w a) A.fits).sound.present n k h
      ∙ ap (λ (f : ℕ). level_at (graph_in w b) f k) S.many

  numbers-same : (xs : List Id) → numbers_of w a xs ≡ numbers_of w b xs
  unfolding numbers_of
  numbers-same [] = refl
  numbers-same (x ∷ xs) = λ i. entry-same x i ∷ numbers-same xs i

  row_same : (k : ℕ) → k < n → row_of w a k ≡ row_of w b k
  unfolding row_of seconds_size
  row_same k h =
      let parents : numbers_of w a (lines_in w (entry_body w a k)).ids ≡ numbers_of w b (lines_in w (entry_body w b k)).ids = ap (numbers_of w a) (lines_same k h) ∙ numbers-same (lines_in w (entry_body w b k)).ids in
      let level = levels-same k h in
      let seconds : seconds_size w (entry_body w a k) ≡ seconds_size w (entry_body w b k) = ap (λ (o : Option ℤ). if_some o 0 nat_abs) (S.each k h).seconds in
      λ i. record { id = (S.each k h).id i; tree = (S.each k h).tree i; parents = parents i; level = level i; seconds = seconds i }

  from-same : (k m : ℕ) → k + m ≤ n → rows_from w a k m ≡ rows_from w b k m
  unfolding rows_from
  from-same k zero h = refl
  from-same k (suc m) h = let r = row_same k (omega arith) in let s = from-same (suc k) m (omega arith) in λ i. r i ∷ s i

  pub rows_same : rows_of w a ≡ rows_of w b
  unfolding rows_of
  rows_same = from-same 0 n (omega arith) ∙ ap (rows_from w b 0) S.many

pub equal_files : (kind : Kind) (a b : List ℕ) (s t : ℕ) → refusal_for (width_of kind) a s ≡ None → refusal_for (width_of kind) b t ≡ None → SameCommits (width_of kind) a b → file_of kind a ≡ file_of kind b
unfolding file_of
equal_files kind a b s t d e S =
    ap (graph_file (hash_version kind) (width_of kind) (digest_of kind)) (rows_same (width_of kind) a b (accepted (width_of kind) a s d) (accepted (width_of kind) b t e) S)
