-- The file agrees with its store: the row of an id stands at the number of its entry, its parents are named by the numbers of theirs, and levels fall along
-- every parent link. Assumes nothing.
use Rattle.object.specs.declared.HeaderError.TheVariants.{Bad, Crowded}
use Rattle.std.specs.Prelude.{None, Option, Some, Err}
use mathlib.Core.Path.{◌≡◌, refl, sym, ◌∙◌, ap, subst}
use mathlib.Core.Logic.{◌⊎◌, inl, inr, ⊎_elim}
use mathlib.Core.Bool.{Bool, true, false, cond}
use mathlib.Core.List.Memᴰ
use mathlib.Core.List.{List, [], ◌∷◌, map}
use Prim.Native.Nat.{ℕ, suc, ◌≤◌, ◌<◌}
use native.Mathlib.Omega.{arith}
use lib.ListN.{length, get_or}
use lib.IntN.{ℤ, pos}
use borrow.Author.Tests.{lt-ltb}
use Rattle.hash.specs.Bytes.{Id, if_some, pick, width_of}
use Rattle.hash.specs.declared.Kind.{Kind}
use Rattle.hash.proofs.Tests.{clash}
use Rattle.hash.proofs.Widths.{width_least}
use Rattle.idlist.specs.IdList.{id_of, find_in}
use Rattle.idlist.proofs.Answer.{find-hit, find_none, none_found}
use Rattle.object.specs.Header.{Header, header, stamped}
use Rattle.object.specs.Read.{reading_of, read_as}
use Rattle.object.proofs.Stamps.{header_stamp}
use Rattle.odb.specs.Store.{entries, entry_ids, body, standing_entries, store_find}
use Rattle.odb.specs.Lookup.{entry_id, entry_body}
use Rattle.odb.proofs.Store.{good-count}
use Rattle.odb.proofs.Nth.{good-id, good-body}
use Rattle.odb.proofs.Entries.{entry_at, none-entry}
use Rattle.commitgraph.specs.Graph.{hash_version, graph_count, graph_ids, graph_id, graph_find, graph_seconds, generation, no_generation}
use Rattle.levels.specs.Levels.{level_of}
use Rattle.levels.specs.StoreGraph.{lines_in, entry_of, graph_in}
use Rattle.levels.proofs.Rules.{falls}
use Rattle.levels.proofs.Lines.{count_none}
use Rattle.graphfile.specs.GraphFile.{RowRead, ReadBack}
use Rattle.graphplan.specs.StoreRows.{Writable, is_readable, readable_body, numbers_of, seconds_size, row_of, rows_of}
use Rattle.graphplan.specs.Refusing.{refusal_for}
use Rattle.graphwrite.specs.Writing.{Bytes, file_of}
use Rattle.graphplan.proofs.RowLaws.{length_rows, row-at}
use Rattle.graphplan.proofs.Wides.{readable-at, in-time-at, head_at}
use Rattle.graphplan.proofs.Planning.{accepted}
use Rattle.graphtold.proofs.Counting.{fit-rule}
use Rattle.graphtold.proofs.Unfit.{readable-body}
use Rattle.graphtold.proofs.Right.{in_time, parent-inside, read_back}
use Rattle.walk.specs.declared.Refusal.TheVariants.{CommitUnreadable, TooManyParents}
use Rattle.walk.specs.Lookup.{World, no_row, corrupt, row, row_at as rowOfFile, world_of, fail, good, from_store, parents_of, store_seconds, Pair, lt_pair}
use Rattle.walk.specs.Reach.{Mem, links}
use Rattle.walk.specs.Demand.{Readable, Agrees, row_generation, pair_at}
use Rattle.walk.proofs.Rows.{row-found}
use Rattle.reach.proofs.Growth.{place_of}
use Rattle.owngraph.specs.OwnGraph.{InAgreement, Held}

-- a header that reads as readable is good for the walk
abbrev bare : ℤ → Pair
bare s = record { generation = no_generation; time = s }

pub header-good : (h : Header) → is_readable (reading_of h) ≡ true → (s : ℤ) × (from_store (Some h) ≡ good h.ids (bare s))
unfolding reading_of from_store
header-good h e = go h.tree h.crowded h.author h.seconds e
  where
    go : (t c a : Bool) (o : Option ℤ) → is_readable (pick t (pick c (Err Crowded) (pick a (read_as (length h.ids) (stamped o h.zone)) (Err Bad))) (Err Bad)) ≡ true
        → (s : ℤ) × (cond t (cond c (fail TooManyParents) (cond a (if_some o (fail CommitUnreadable) (λ s. good h.ids (bare s))) (fail CommitUnreadable))) (fail CommitUnreadable) ≡ good h.ids (bare s))
    go false c a o d = clash d refl
    go true true a o d = clash d refl
    go true false false o d = clash d refl
    go true false true None d = clash d refl
    go true false true (Some s) d = (s, refl)

module _ (w : ℕ) (least : 20 ≤ w) (b g : List ℕ) (v : ℕ) (W : Writable w b (standing_entries w b)) (S : Bytes b) (R : ReadBack v w (rows_of w b) g) where
  abbrev n : ℕ
  n = standing_entries w b

  abbrev world : World
  world = world_of w b g

  abbrev ids_of : ℕ → List Id
  ids_of k = (lines_in w (entry_body w b k)).ids

  abbrev level : ℕ → ℕ
  level k = level_of (graph_in w b) k

  -- ---- ids

  row_read : (k : ℕ) → k < n → RowRead w g k (row_of w b k)
  row_read k h = subst (RowRead w g k) (row-at w b k h) (R.rows k (omega (arith, length_rows w b)))

  row-id : (k : ℕ) → k < n → graph_id w g k ≡ entry_id w b k
  unfolding row_of
  row-id k h = (row_read k h).id

  found : (k : ℕ) → k < n → graph_find w g (entry_id w b k) ≡ Some k
  found k h = ap (graph_find w g) (sym (row-id k h)) ∙ row-found w g R.ok k (omega (arith, R.count, length_rows w b))

  not_found : (x : Id) → ((k : ℕ) → k < n → entry_id w b k ≡ x → ⊥) → graph_find w g x ≡ None
  unfolding graph_find graph_id
  not_found x out =
      none_found (graph_ids w g) x (graph_count g)
      (λ k h d. let l : k < n = omega (arith, R.count, length_rows w b) in out k l (sym (row-id k l) ∙ d))

  in_store_lem : (k : ℕ) → k < n → k < entries b
  in_store_lem k h = omega (arith, good-count w b W.ok)

  entry-is : (k : ℕ) → k < n → entry_id w b k ≡ id_of (entry_ids w b) k
  entry-is k h = good-id w b k W.ok (in_store_lem k h)

  -- an id is an entry's, or no entry's
  held? : (x : Id) → Held w b x ⊎ ((k : ℕ) → k < n → entry_id w b k ≡ x → ⊥)
  held? x = go (find_in (entry_ids w b) x n) refl
    where
      go : (o : Option ℕ) → find_in (entry_ids w b) x n ≡ o → Held w b x ⊎ ((k : ℕ) → k < n → entry_id w b k ≡ x → ⊥)
      go None e = inr (λ k h d. find_none (entry_ids w b) x n k e h (sym (entry-is k h) ∙ d))
      go (Some k) e = let f = find-hit (entry_ids w b) x n k e in inl (record { entry = k; below = f.0; is = entry-is k f.0 ∙ f.1 })

  -- the entry of a number that is one
  number-named : (x : Id) → entry_of w b n x < n → entry_id w b (entry_of w b n x) ≡ x
  unfolding entry_of
  number-named x h = go (find_in (entry_ids w b) x n) refl h
    where
      go : (o : Option ℕ) → find_in (entry_ids w b) x n ≡ o → if_some o n (λ k. k) < n → entry_id w b (if_some o n (λ k. k)) ≡ x
      go None e d = absurd (omega arith)
      go (Some k) e d = entry-is k d ∙ (find-hit (entry_ids w b) x n k e).1

  -- ---- the store

  store_at : (k : ℕ) → k < n → world.store (entry_id w b k) ≡ Some (header w (entry_body w b k))
  unfolding world_of store_find
  store_at k h =
      ap (λ (o : Option ℕ). if_some (if_some o None (λ j. Some (body w b j))) None (λ c. Some (header w c))) (entry_at w b W.ok (entry_id w b k) k (in_store_lem k h) (sym (entry-is k h)))
      ∙ ap (λ (c : List ℕ). Some (header w c)) (sym (good-body w b k W.ok (in_store_lem k h)))

  good-at : (k : ℕ) → k < n → (s : ℤ) × (from_store (world.store (entry_id w b k)) ≡ good (header w (entry_body w b k)).ids (bare s))
  unfolding readable_body
  good-at k h =
      let r = header-good (header w (entry_body w b k)) (readable-at w b n W k h) in
      (r.0, ap from_store (store_at k h) ∙ r.1)

  pub entry-readable : (k : ℕ) → k < n → Readable world (entry_id w b k)
  unfolding Readable
  entry-readable k h = let r = good-at k h in ((header w (entry_body w b k)).ids, bare r.0, r.1)

  entry-links : (k : ℕ) → k < n → links world (entry_id w b k) ≡ ids_of k
  unfolding links parents_of
  entry-links k h = ap parents_of (good-at k h).1 ∙ (readable-body w (entry_body w b k) (readable-at w b n W k h)).2.ids

  entry-seconds : (k : ℕ) → k < n → store_seconds world (entry_id w b k) ≡ Some (pos (seconds_size w (entry_body w b k)))
  unfolding store_seconds
  entry-seconds k h =
      ap (λ (o : Option Header). if_some o None (λ a. a.seconds)) (store_at k h)
      ∙ (header_stamp w (entry_body w b k)).0
      ∙ (in_time w (entry_body w b k) (in-time-at w b n W k h)).is

  pub entry-time : (k : ℕ) → k < n → (t : ℤ) × (store_seconds world (entry_id w b k) ≡ Some t)
  entry-time k h = (pos (seconds_size w (entry_body w b k)), entry-seconds k h)

  -- an absent id leads nowhere
  no-links : (x : Id) → ((k : ℕ) → k < n → entry_id w b k ≡ x → ⊥) → links world x ≡ []
  unfolding links parents_of world_of store_find from_store
  no-links x out =
      ap (λ (o : Option ℕ). parents_of (from_store (if_some (if_some o None (λ j. Some (body w b j))) None (λ c. Some (header w c)))))
      (none-entry w b x (λ k h d. let l : k < n = omega (arith, good-count w b W.ok) in out k l (entry-is k l ∙ d)))

  -- ---- the graph

  abbrev linked : List Id → List (Id × ℤ)
  linked xs = map (λ q. (graph_id w g q, graph_seconds w g q)) (numbers_of w b xs)

  graph_at : (k : ℕ) → k < n → world.graph (entry_id w b k) ≡ row (linked (ids_of k)) (level k) (pos (seconds_size w (entry_body w b k)))
  unfolding world_of rowOfFile row_of
  graph_at k h =
      let r = row_read k h in
      ap (λ (o : Option ℕ). if_some o no_row (λ p. rowOfFile w g p)) (found k h)
      ∙ ap (λ (o : Option (List ℕ)). if_some o corrupt (λ ps. row (map (λ q. (graph_id w g q, graph_seconds w g q)) ps) (generation w g k) (graph_seconds w g k))) r.parents
      ∙ ap (λ (l : ℕ). row (linked (ids_of k)) l (graph_seconds w g k)) r.level
      ∙ ap (λ (s : ℤ). row (linked (ids_of k)) (level k) s) r.seconds

  graph-none : (x : Id) → ((k : ℕ) → k < n → entry_id w b k ≡ x → ⊥) → world.graph x ≡ no_row
  unfolding world_of
  graph-none x out = ap (λ (o : Option ℕ). if_some o no_row (λ p. rowOfFile w g p)) (not_found x out)

  -- ---- agreement

  ids-back : (xs : List Id) → ((j : ℕ) → j < length xs → entry_of w b n (get_or xs j []) < n) → map (λ (p : Id × ℤ). p.0) (linked xs) ≡ xs
  unfolding numbers_of
  ids-back [] m = refl
  ids-back (x ∷ xs) m =
      let l = m 0 (omega arith) in
      let h : graph_id w g (entry_of w b n x) ≡ x = row-id (entry_of w b n x) l ∙ number-named x l in
      let r = ids-back xs (λ j d. m (suc j) (omega arith)) in
      λ i. h i ∷ r i

  inside : (k j : ℕ) → k < n → j < length (ids_of k) → entry_of w b n (get_or (ids_of k) j []) < n
  inside k j h l = parent-inside w b n S W least k j h l

  entry-agrees : (k : ℕ) → k < n → Agrees world (entry_id w b k)
  entry-agrees k h =
      let e = graph_at k h in
      let ids : map (λ (p : Id × ℤ). p.0) (linked (ids_of k)) ≡ links world (entry_id w b k) = ids-back (ids_of k) (λ j l. inside k j h l) ∙ sym (entry-links k h) in
      let time = entry-seconds k h in
      record {
        whole = λ q. let c : row (linked (ids_of k)) (level k) (pos (seconds_size w (entry_body w b k))) ≡ corrupt = sym e ∙ q in let z : ◌≡◌ {A = ℕ} 0 1 = cc in absurd (omega arith);
        same-parents = λ ps l s q.
            let c : row (linked (ids_of k)) (level k) (pos (seconds_size w (entry_body w b k))) ≡ row ps l s = sym e ∙ q in
            let j : linked (ids_of k) ≡ ps = cc in
            subst (λ (a : List (Id × ℤ)). map (λ p. p.0) a ≡ links world (entry_id w b k)) j ids;
        same-seconds = λ ps l s q.
            let c : row (linked (ids_of k)) (level k) (pos (seconds_size w (entry_body w b k))) ≡ row ps l s = sym e ∙ q in
            let j : pos (seconds_size w (entry_body w b k)) ≡ s = cc in
            subst (λ (a : ℤ). store_seconds world (entry_id w b k) ≡ Some a) j time;
      }

  absent-agrees : (x : Id) → ((k : ℕ) → k < n → entry_id w b k ≡ x → ⊥) → Agrees world x
  absent-agrees x out =
      let e = graph-none x out in
      record {
        whole = λ q. let c : no_row ≡ corrupt = sym e ∙ q in let z : ◌≡◌ {A = ℕ} 0 1 = cc in absurd (omega arith);
        same-parents = λ ps l s q. let c : no_row ≡ row ps l s = sym e ∙ q in let z : ◌≡◌ {A = ℕ} 0 1 = cc in absurd (omega arith);
        same-seconds = λ ps l s q. let c : no_row ≡ row ps l s = sym e ∙ q in let z : ◌≡◌ {A = ℕ} 0 1 = cc in absurd (omega arith);
      }

  all-agree : (x : Id) → Agrees world x
  all-agree x = ⊎_elim (λ k. subst (Agrees world) k.is (entry-agrees k.entry k.below)) (absent-agrees x) (held? x)

  -- ---- levels

  entry-level : (k : ℕ) → k < n → (pair_at world (entry_id w b k)).generation ≡ level k
  unfolding pair_at row_generation
  entry-level k h = ap row_generation (graph_at k h)

  lower-falls : (p q : Pair) → p.generation < q.generation → lt_pair p q ≡ true
  unfolding lt_pair
  lower-falls p q h = rw (lt-ltb p.generation q.generation h)

  -- a parent is an entry of lower level
  pub parent-held : (k : ℕ) → k < n → (p : Id) → Mem p (links world (entry_id w b k)) → (q : ℕ) × (q < n) × (entry_id w b q ≡ p) × (level q < level k)
  parent-held k h p m =
      let o = place_of p (ids_of k) (subst (λ (l : List Id). Mem p l) (entry-links k h) m) in
      let l = inside k o.0 h o.1 in
      let c = count_none w (entry_body w b k) (head_at w b n W k h).1.more in
      let d : level (entry_of w b n (get_or (ids_of k) o.0 [])) < level k = falls (graph_in w b) (level_of (graph_in w b)) (fit-rule (graph_in w b) W.fits) k o.0 h (omega (arith, o.1)) in
      (entry_of w b n (get_or (ids_of k) o.0 []), l, number-named (get_or (ids_of k) o.0 []) l ∙ o.2, d)

  entry-falls : (k : ℕ) → k < n → (p : Id) → Mem p (links world (entry_id w b k)) → lt_pair (pair_at world p) (pair_at world (entry_id w b k)) ≡ true
  entry-falls k h p m =
      let q = parent-held k h p m in
      subst (λ (x : Id). lt_pair (pair_at world x) (pair_at world (entry_id w b k)) ≡ true) q.2
      (lower-falls (pair_at world (entry_id w b q.0)) (pair_at world (entry_id w b k)) (omega (arith, q.3, entry-level q.0 q.1, entry-level k h)))

  all-fall : (x p : Id) → Mem p (links world x) → lt_pair (pair_at world p) (pair_at world x) ≡ true
  all-fall x p m =
      ⊎_elim
      (λ k. subst (λ (y : Id). lt_pair (pair_at world p) (pair_at world y) ≡ true) k.is (entry-falls k.entry k.below p (subst (λ (y : Id). Mem p (links world y)) (sym k.is) m)))
      (λ out. absurd (Memᴰ.not-nil (subst (λ (l : List Id). Mem p l) (no-links x out) m)))
      (held? x)

  pub in-agreement : InAgreement w b g
  in-agreement = record { agrees = all-agree; levels = entry-level; falls = all-fall }

-- "Our reader must accept each such file and find it in agreement"
pub agrees : (kind : Kind) (b : List ℕ) (lent : ℕ) → Bytes b → refusal_for (width_of kind) b lent ≡ None → InAgreement (width_of kind) b (file_of kind b)
agrees kind b lent S e = in-agreement (width_of kind) (width_least kind) b (file_of kind b) (hash_version kind) (accepted (width_of kind) b lent e) S (read_back kind b lent S e)
