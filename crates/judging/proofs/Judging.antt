-- One commit that is readable in the store: its row says the same as its body exactly where parents, in order, and seconds are the same, and then
-- the pair that was read is the commit's. Assumes nothing.
use Rattle.std.specs.Prelude.{None, Option, Some}
use mathlib.Core.Path.{◌≡◌, refl, sym, ◌∙◌, ap, subst}
use mathlib.Core.Logic.{⊎_elim}
use Prim.Native.Nat.{ℕ, zero, suc, ◌+◌, ◌≤◌, ◌<◌}
use mathlib.Core.Bool.{Bool, true, false, cond, not, ◌&&◌}
use mathlib.Core.List.{List, [], ◌∷◌, map}
use native.Mathlib.Omega.{arith}
use native.Mathlib.Nat.{not-suc-le-zero, le_of_suc-le-suc}
use lib.ListN.{length, get_or, length-map}
use lib.IntN.{ℤ, pos}
use Rattle.std.specs.Ordering.{int_eq}
use Rattle.std.specs.Cmp.{signed_Decides}
use Rattle.hash.specs.Bytes.{Id, if_some, eq_id}
use Rattle.hash.proofs.Tests.{by_cases, clash, not_yes, and_second, guard_of}
use Rattle.hash.proofs.Ids.{eq_id-same}
use Rattle.date.specs.declared.Stamp.{Stamp}
use Rattle.object.specs.Header.{Header, header}
use Rattle.object.specs.Ids.{id_in, id_room}
use Rattle.object.specs.Read.{reading_of, Reading, readable_as}
use Rattle.object.specs.declared.ObjectId.{ObjectId}
use Rattle.odb.specs.Store.{store_is_ok}
use Rattle.odb.specs.Lookup.{part_of}
use Rattle.odb.specs.declared.Located.{Located}
use Rattle.odb.specs.declared.Located.TheVariants.{Body as BodyAt, Absent as Nowhere}
use Rattle.commitgraph.specs.Graph.{layout_of, graph_parents, generation, graph_seconds}
use Rattle.commitgraph.specs.declared.Layout.{Layout}
use Rattle.commit.specs.Find.{GoodCache}
use Rattle.walk.specs.declared.GenThenTime.{GenThenTime}
use Rattle.walk.specs.declared.Refusal.{Refusal}
use Rattle.walk.specs.declared.Refusal.TheVariants.{CommitNotFound, CommitUnreadable, TooManyParents}
use Rattle.walk.specs.Lookup.{World, world_of, Row, no_row, corrupt, row, row_at, Pair, pair_of, no_generation, Read, fail, good, from_store, read_row, read, store_seconds, seconds_for}
use Rattle.walk.specs.Reach.{links}
use Rattle.walk.specs.Demand.{Readable, row_generation, pair_at}
use Rattle.reading.specs.declared.Commit.{Commit}
use Rattle.reading.specs.declared.Commit.TheVariants.{Row as RowOf, Body as BodyOf, Failed}
use Rattle.reading.specs.Files.{layout_under, world_under}
use Rattle.reading.specs.Row.{row_parent}
use Rattle.reading.specs.Body.{parent_id_at}
use Rattle.reading.specs.Stored.{GivesBody}
use Rattle.reading.specs.Whole.{body_commit, Tells, Has, IsRead, ReadsCommit}
use Rattle.reading.proofs.Lines.{parent-right}
use Rattle.reading.proofs.Rows.{parent_at, row_parent-right}
use Rattle.reading.proofs.World.{good-cache, kept-world, located_body, located_none, RowFound, found-row, found-body}
use Rattle.reading.proofs.Whole.{body-told, from-body, commit-right}
use Rattle.reading.proofs.StoredBodies.{stored-good, stored-links, stored-readable}
use Rattle.reach.specs.Tested.{same_ids, same_time, same_seconds, row_agrees, agrees_in}
use Rattle.reach.proofs.Growth.{last-place}
use Rattle.reach.proofs.Verdicts.{same_ids_eq, same_time_eq, same_time_of}
use Rattle.judging.specs.Judge.{agreeing, Files, ComparesParents, ComparesRow, Judges}

-- ---- the same seconds

pub same_told : (a b : ℤ) → int_eq a b ≡ same_time a b
same_told a b =
    by_cases (int_eq a b) (λ h. h ∙ sym (same_time_of a b ((signed_Decides a b).0 h)))
    (λ h. h ∙ sym (not_yes (λ t. clash ((signed_Decides a b).1 (same_time_eq a b t)) h)))

-- ---- the same ids

same-places : (a b : List Id) → length a ≡ length b → ((i : ℕ) → i < length a → eq_id (get_or a i []) (get_or b i []) ≡ true) → same_ids a b ≡ true
unfolding same_ids
same-places [] [] e h = refl
same-places [] (y ∷ b) e h = absurd (omega arith)
same-places (x ∷ a) [] e h = absurd (omega arith)
same-places (x ∷ a) (y ∷ b) e h = guard_of (eq_id x y) (same_ids a b) (h 0 (omega arith)) (same-places a b (omega arith) (λ i k. h (suc i) (omega arith)))

same_broken : (a b : List Id) (i : ℕ) → eq_id (get_or a i []) (get_or b i []) ≡ false → same_ids a b ≡ false
same_broken a b i e = not_yes (λ q. clash (eq_id-same (get_or a i []) (get_or b i []) (ap (λ (l : List Id). get_or l i []) (same_ids_eq a b q))) e)

same-long : (a b : List Id) → (length a ≡ length b → ⊥) → same_ids a b ≡ false
same-long a b n = not_yes (λ q. n (ap length (same_ids_eq a b q)))

firsts : (ps : List (Id × ℤ)) (i : ℕ) → i < length ps → get_or (map (λ q. q.0) ps) i [] ≡ (get_or ps i ([], pos 0)).0
firsts [] i h = absurd (not-suc-le-zero h)
firsts (p ∷ ps) zero h = refl
firsts (p ∷ ps) (suc i) h = firsts ps i (le_of_suc-le-suc h)

-- ---- the parents of a row and of a body

-- after k of n
pub record Comparing (width : ℕ) (g : List ℕ) (l : Layout) (p : ℕ) (b : List ℕ) (n k : ℕ) : Type 0 where
  pub upto : k ≤ n
  pub same : l ≡ layout_of width g → (ps : List (Id × ℤ)) (v : ℕ) (t : ℤ) → row_at width g p ≡ row ps v t → n ≡ length ps → (header width b).tree ≡ true → n ≡ length (header width b).ids
      → (i : ℕ) → i < k → eq_id (get_or (map (λ q. q.0) ps) i []) (get_or (header width b).ids i []) ≡ true

pub comparing_first : (width : ℕ) (g : List ℕ) (l : Layout) (p : ℕ) (b : List ℕ) (n : ℕ) → Comparing width g l p b n 0
comparing_first width g l p b n = record { upto = omega arith; same = λ own ps v t e c tr d i h. absurd (omega arith) }

module _ {width : ℕ} {g : List ℕ} {l : Layout} {p : ℕ} {b : List ℕ} {n k : ℕ} (c : Comparing width g l p b n k) where
  module _ (small : width ≤ id_room) (h : k < n) {y x : Id} (z : ObjectId) {r : Bool} (own : y ≡ row_parent width g l p k) (read : z.bytes ≡ parent_id_at width b k) (given : x ≡ id_in width z.bytes) (is : r ≡ eq_id y x) where
    -- the two that were compared
    two : l ≡ layout_of width g → (ps : List (Id × ℤ)) (v : ℕ) (t : ℤ) → row_at width g p ≡ row ps v t → n ≡ length ps → (header width b).tree ≡ true → n ≡ length (header width b).ids
        → r ≡ eq_id (get_or (map (λ q. q.0) ps) k []) (get_or (header width b).ids k [])
    two e ps v t f m tr d =
        let o : y ≡ get_or (map (λ q. q.0) ps) k [] = own ∙ row_parent-right width g p k e ps v t f (omega arith) ∙ sym (firsts ps k (omega arith)) in
        let q : x ≡ get_or (header width b).ids k [] = given ∙ ap (id_in width) read ∙ parent-right width small b k tr (omega arith) in
        is ∙ ap (λ (a : Id). eq_id a x) o ∙ ap (eq_id (get_or (map (λ q. q.0) ps) k [])) q

    pub comparing-next : r ≡ true → Comparing width g l p b n (k + 1)
    comparing-next holds' = record {
      upto = omega arith;
      same = λ e ps v t f m tr d i j. ⊎_elim
          (λ a. c.same e ps v t f m tr d i a)
          (λ a. subst (λ (o : ℕ). eq_id (get_or (map (λ q. q.0) ps) o []) (get_or (header width b).ids o []) ≡ true) (sym a) (sym (two e ps v t f m tr d) ∙ holds'))
          (last-place i k (omega arith));
    }

    pub comparing-stop : r ≡ false → ComparesParents width g l p b n false
    comparing-stop fails' = record { right = λ e ps v t f m tr d. sym (same_broken (map (λ q. q.0) ps) (header width b).ids k (sym (two e ps v t f m tr d) ∙ fails')) }

  pub comparing-last : n ≤ k → ComparesParents width g l p b n true
  comparing-last h = record {
    right = λ e ps v t f m tr d.
        let o = length-map ps (λ q. q.0) in
        sym (same-places (map (λ q. q.0) ps) (header width b).ids (o ∙ sym m ∙ d) (λ i j. c.same e ps v t f m tr d i (omega (arith, o))));
  }

-- ---- a header that is readable

pub record HeaderRead (h : Header) (n : ℕ) (t : Stamp) : Type 0 where
  pub tree : h.tree ≡ true
  pub count : n ≡ length h.ids
  pub seconds : h.seconds ≡ Some t.seconds.0

record Stored (h : Header) (q : Pair) : Type 0 where
  level : q.generation ≡ no_generation
  seconds : h.seconds ≡ Some q.time

from-seconds : (h : Header) (ps : List Id) (q : Pair) → from_store (Some h) ≡ good ps q → Stored h q
unfolding from_store
from-seconds h ps q e = go h.tree h.crowded h.author h.seconds refl e
  where
    whole : Option ℤ → Read
    whole o = if_some o (fail CommitUnreadable) (λ s. good h.ids (record { generation = no_generation; time = s }))

    read-pair : (s : ℤ) → good h.ids (record { generation = no_generation; time = s }) ≡ good ps q → record { generation = no_generation; time = s } ≡ q
    read-pair s f = cc

    go : (t c u : Bool) (o : Option ℤ) → h.seconds ≡ o
        → cond t (cond c (fail TooManyParents) (cond u (whole o) (fail CommitUnreadable))) (fail CommitUnreadable) ≡ good ps q
        → Stored h q
    go false c u o k f = let z : ◌≡◌ {A = ℕ} 0 1 = cc in absurd (omega arith)
    go true true u o k f = let z : ◌≡◌ {A = ℕ} 0 1 = cc in absurd (omega arith)
    go true false false o k f = let z : ◌≡◌ {A = ℕ} 0 1 = cc in absurd (omega arith)
    go true false true None k f = let z : ◌≡◌ {A = ℕ} 0 1 = cc in absurd (omega arith)
    go true false true (Some s) k f =
        let j = read-pair s f in
        record { level = ap (λ (a : Pair). a.generation) (sym j); seconds = k ∙ ap (λ (a : Pair). Some a.time) j }

pub header_read : (h : Header) (n : ℕ) (t : Stamp) → reading_of h ≡ readable_as n t → HeaderRead h n t
header_read h n t e =
    let v = subst (λ (q : Reading). Tells (body_commit 0 0 q) (from_store (Some h))) e (body-told 0 0 h).tells in
    let f = from-body h v.parents (record { generation = no_generation; time = t.seconds.0 }) v.is in
    record { tree = f.0; count = v.count ∙ ap length (sym f.1); seconds = (from-seconds h v.parents (record { generation = no_generation; time = t.seconds.0 }) v.is).seconds }

-- ---- a row beside a body

module _ (width : ℕ) (g : List ℕ) (l : Layout) (p m : ℕ) (time : ℤ) (b : List ℕ) (n : ℕ) (seconds : ℤ) where
  pub row_count : (n ≡ m → ⊥) → ComparesRow width g l p m time b n seconds false
  row_count fails' = record {
    right = λ own ps v t e c stamp f.
        let h = header_read (header width b) n stamp f in
        let d : same_ids (map (λ q. q.0) ps) (header width b).ids ≡ false = same-long (map (λ q. q.0) ps) (header width b).ids (λ q. fails' (h.count ∙ sym q ∙ length-map ps (λ q. q.0) ∙ sym c)) in
        ap (λ (a : Bool). a && same_time seconds time) (sym d);
  }

  pub row-time : same_time seconds time ≡ false → ComparesRow width g l p m time b n seconds false
  row-time fails' = record {
    right = λ own ps v t e c stamp f. sym (ap (λ (a : Bool). same_ids (map (λ q. q.0) ps) (header width b).ids && a) fails' ∙ and_no (same_ids (map (λ q. q.0) ps) (header width b).ids));
  }
    where
      and_no : (a : Bool) → (a && false) ≡ false
      and_no true = refl
      and_no false = refl

  pub row-both : {r : Bool} → n ≡ m → same_time seconds time ≡ true → ComparesParents width g l p b n r → ComparesRow width g l p m time b n seconds r
  row-both {r} i holds' o = record {
    right = λ own ps v t e c stamp f.
        let h = header_read (header width b) n stamp f in
        o.right own ps v t e (i ∙ c) h.tree h.count ∙ sym (ap (λ (a : Bool). same_ids (map (λ q. q.0) ps) (header width b).ids && a) holds' ∙ and_yes (same_ids (map (λ q. q.0) ps) (header width b).ids));
  }
    where
      and_yes : (a : Bool) → (a && true) ≡ a
      and_yes true = refl
      and_yes false = refl

-- ---- the commit

-- the store's header of a commit
stored-header : {width : ℕ} {s : List ℕ} {x : Id} {b : List ℕ} → GivesBody width s x b → store_is_ok width s ≡ true → (g : List ℕ) (n : ℕ) (t : Stamp) → reading_of (header width b) ≡ readable_as n t
    → (world_of width s g).store x ≡ Some (header width b)
unfolding from_store
stored-header {width} {s} {x} {b} v ok g n t e = go v.place refl
  where
    never : (ps : List Id) (q : Pair) → fail CommitNotFound ≡ good ps q → ⊥
    never ps q f = let z : ◌≡◌ {A = ℕ} 0 1 = cc in absurd (omega arith)

    go : (o : Located) → v.place ≡ o → (world_of width s g).store x ≡ Some (header width b)
    go (BodyAt a c) p = located_body g a c v.locates p (v.is ∙ ap (part_of s) p) ok
    go Nowhere p =
        let q = stored-good v ok g n t e in
        absurd (never (header width b).ids q.pair (sym (ap from_store (located_none g v.locates p ok)) ∙ q.is))

-- a row that was read
record RowGood (width : ℕ) (g : List ℕ) (p n : ℕ) (q : GenThenTime) : Type 0 where
  parents : List (Id × ℤ)
  is : row_at width g p ≡ row parents q.generation.0 q.time.0
  count : n ≡ length parents

row-good : (width : ℕ) (w : World) (x : Id) (g : List ℕ) (p n : ℕ) (q : GenThenTime) → Has n q (read_row w x (row_at width g p)) → RowGood width g p n q
unfolding row_at read_row
row-good width w x g p n q h = go (graph_parents width g p) refl h.is
  where
    same-pair : (ps qs : List Id) (a b : Pair) → good ps a ≡ good qs b → (ps ≡ qs) × (a ≡ b)
    same-pair ps qs a b e = (cc, cc)

    go : (o : Option (List ℕ)) → graph_parents width g p ≡ o
        → read_row w x (if_some o corrupt (λ qs. row (map (parent_at width g) qs) (generation width g p) (graph_seconds width g p))) ≡ good h.parents (pair_of q) → RowGood width g p n q
    go None k e = let z : ◌≡◌ {A = ℕ} 0 1 = cc in absurd (omega arith)
    go (Some qs) k e =
        let i = same-pair (map (λ a. a.0) (map (parent_at width g) qs)) h.parents (record { generation = generation width g p; time = graph_seconds width g p }) (pair_of q) e in
        record {
          parents = map (parent_at width g) qs;
          is = rw k (ap (λ (a : Pair). row (map (parent_at width g) qs) a.generation a.time) i.1);
          count = h.count ∙ ap length (sym i.0) ∙ length-map (map (parent_at width g) qs) (λ a. a.0);
        }

module _ {width : ℕ} {c : Option Layout} {g s : List ℕ} {x : Id} {d : Commit} (rd : ReadsCommit width c g s x d) where
  module _ (f : Files width c g s) where
    same-world : world_under width c g s ≡ world_of width s g
    same-world = ap (λ (a : Option Layout). world_under width a g s) f.cache ∙ kept-world width g s

    good-file : GoodCache width c g
    good-file = subst (λ (a : Option Layout). GoodCache width a g) (sym f.cache) (good-cache width g true f.graph)

    is_read : (e : Commit) → d ≡ e → IsRead width c g s x e
    is_read e k = subst (IsRead width c g s x) k (commit-right rd f.store good-file)

    told : (e : Commit) → d ≡ e → Tells e (read (world_of width s g) x)
    told e k = subst (λ (w : World). Tells e (read w x)) same-world (is_read e k).tells

  -- its row
  module _ (p m : ℕ) (q : GenThenTime) (k : d ≡ RowOf p m q) {l : Layout} (own : l ≡ layout_under c) {b : List ℕ} {n : ℕ} {seconds : ℤ} {r : Bool} (cr : ComparesRow width g l p m q.time.0 b n seconds r) where
    record RowSays : Type 0 where
      agrees : agrees_in (world_of width s g) x ≡ r
      pair : r ≡ true → pair_of q ≡ pair_at (world_of width s g) x

    row-says : Files width c g s → GivesBody width s x b → (t : Stamp) → reading_of (header width b) ≡ readable_as n t → seconds ≡ t.seconds.0 → RowSays
    unfolding read agrees_in row_agrees same_seconds store_seconds pair_at row_generation seconds_for
    row-says f gb t e same-seconds =
        let w = world_of width s g in
        let nm = (is_read f (RowOf p m q) k).names in
        let rf : RowFound width c g s x p = found-row width c g s x p nm.0 nm.1 (good-file f) nm.2 in
        let says : (world_of width s g).graph x ≡ row_at width g p = ap (λ (a : World). a.graph x) (sym (same-world f)) ∙ rf.says in
        let rg : RowGood width g p m q = row-good width (world_of width s g) x g p m q (subst (λ (a : Row). Has m q (read_row (world_of width s g) x a)) says (told f (RowOf p m q) k)) in
        let graph_is : (world_of width s g).graph x ≡ row rg.parents q.generation.0 q.time.0 = says ∙ rg.is in
        let hd : (world_of width s g).store x ≡ Some (header width b) = stored-header gb f.store g n t e in
        let sec : store_seconds (world_of width s g) x ≡ Some seconds = ap (λ (o : Option Header). if_some o None (λ h. h.seconds)) hd ∙ (header_read (header width b) n t e).seconds ∙ ap Some (sym same-seconds) in
        let ids : links (world_of width s g) x ≡ (header width b).ids = stored-links gb f.store g n t e in
        let same : r ≡ (same_ids (map (λ a. a.0) rg.parents) (header width b).ids && same_time seconds q.time.0) = cr.right (own ∙ rf.layout) rg.parents q.generation.0 q.time.0 rg.is rg.count t e in
        record {
          agrees = ap (λ (a : Row). row_agrees a (links (world_of width s g) x) (store_seconds (world_of width s g) x)) graph_is
              ∙ ap (λ (a : List Id). row_agrees (row rg.parents q.generation.0 q.time.0) a (store_seconds (world_of width s g) x)) ids
              ∙ ap (λ (a : Option ℤ). row_agrees (row rg.parents q.generation.0 q.time.0) (header width b).ids a) sec
              ∙ sym same;
          pair = λ holds'.
              let st : seconds ≡ q.time.0 = same_time_eq seconds q.time.0 (and_second (same_ids (map (λ a. a.0) rg.parents) (header width b).ids) (same_time seconds q.time.0) (sym same ∙ holds')) in
              λ j. record {
                generation = sym (ap row_generation graph_is) j;
                time = sym (ap (λ (o : Option ℤ). if_some o (pos 0) (λ a. a)) sec ∙ st) j;
              };
        }

    pub judge-agrees : r ≡ true → Judges width c g s x b n seconds (Some (agreeing p q))
    judge-agrees holds' = record { right = λ f gb t e k. let a = row-says f gb t e k in (a.agrees ∙ holds', a.pair holds') }

    pub judge-odds : r ≡ false → Judges width c g s x b n seconds None
    judge-odds fails' = record { right = λ f gb t e k. (row-says f gb t e k).agrees ∙ fails' }

  -- its body alone
  pub judge-body : (a e n : ℕ) (q : GenThenTime) (p : ℕ) {b : List ℕ} {m : ℕ} {seconds : ℤ} → d ≡ BodyOf a e n q → Judges width c g s x b m seconds (Some (agreeing p q))
  unfolding read read_row agrees_in row_agrees store_seconds pair_at row_generation seconds_for
  judge-body a e n q p k = record {
    right = λ f gb m is' same-seconds.
        let fb = found-body width c g s x a e f.store (is_read f (BodyOf a e n q) k).names in
        let bare : (world_of width s g).graph x ≡ no_row = ap (λ (w : World). w.graph x) (sym (same-world f)) ∙ fb.0 in
        let hd : (world_of width s g).store x ≡ Some (header width (part_of s (BodyAt a e))) = ap (λ (w : World). w.store x) (sym (same-world f)) ∙ fb.1 in
        let t = told f (BodyOf a e n q) k in
        let is : from_store (Some (header width (part_of s (BodyAt a e)))) ≡ good t.parents (pair_of q) =
        sym (ap (λ (o : Row). read_row (world_of width s g) x o) bare ∙ ap from_store hd) ∙ t.is in
        let fs = from-seconds (header width (part_of s (BodyAt a e))) t.parents (pair_of q) is in (
          ap (λ (o : Row). row_agrees o (links (world_of width s g) x) (store_seconds (world_of width s g) x)) bare,
          λ j. record {
            generation = sym (ap row_generation bare ∙ sym fs.level) j;
            time = sym (ap (λ (o : Option Header). if_some (if_some o None (λ h. h.seconds)) (pos 0) (λ b. b)) hd ∙ ap (λ (o : Option ℤ). if_some o (pos 0) (λ b. b)) fs.seconds) j;
          },
        );
  }

  -- a row with a corrupt list: the commit is readable, so nothing else keeps it from being read
  pub judge-failed : (n : Refusal) {b : List ℕ} {m : ℕ} {seconds : ℤ} → d ≡ Failed n → Judges width c g s x b m seconds None
  unfolding read read_row agrees_in row_agrees Readable
  judge-failed n {m = m} k = record { right = λ f gb t e same-seconds. go f (stored-readable gb f.store g m t e) ((world_of width s g).graph x) refl }
    where
      fails : (ps : List Id) (p : Pair) → good ps p ≡ fail n → ⊥
      fails ps p e = let z : ◌≡◌ {A = ℕ} 0 1 = cc in absurd (omega arith)

      go : Files width c g s → Readable (world_of width s g) x → (o : Row) → (world_of width s g).graph x ≡ o → row_agrees ((world_of width s g).graph x) (links (world_of width s g) x) (store_seconds (world_of width s g) x) ≡ false
      go f y no_row e = absurd (fails y.0 y.1 (sym y.2 ∙ sym (ap (read_row (world_of width s g) x) e) ∙ told f (Failed n) k))
      go f y corrupt e = ap (λ (o : Row). row_agrees o (links (world_of width s g) x) (store_seconds (world_of width s g) x)) e
      go f y (row ps v t) e = absurd (fails (map (λ a. a.0) ps) (record { generation = v; time = t }) (sym (ap (read_row (world_of width s g) x) e) ∙ told f (Failed n) k))

-- without a file no commit has a row, and the body has all
pub judge_bare : {width : ℕ} {c : Option Layout} (g s : List ℕ) (x : Id) (b : List ℕ) (n : ℕ) (seconds : ℤ) (p : ℕ) (q : GenThenTime) → c ≡ None → q.generation.0 ≡ no_generation → q.time.0 ≡ seconds
    → Judges width c g s x b n seconds (Some (agreeing p q))
unfolding world_under agrees_in row_agrees store_seconds pair_at row_generation seconds_for
judge_bare {width} {c} g s x b n seconds p q k level time = record {
  right = λ f gb t e same-seconds.
      let under : world_under width None g s ≡ world_of width s g = ap (λ (a : Option Layout). world_under width a g s) (sym k ∙ f.cache) ∙ kept-world width g s in
      let bare : (world_of width s g).graph x ≡ no_row = ap (λ (w : World). w.graph x) (sym under) in
      let hd : (world_of width s g).store x ≡ Some (header width b) = stored-header gb f.store g n t e in
      let sec : store_seconds (world_of width s g) x ≡ Some q.time.0 = ap (λ (o : Option Header). if_some o None (λ h. h.seconds)) hd ∙ (header_read (header width b) n t e).seconds ∙ ap Some (sym same-seconds ∙ sym time) in (
        ap (λ (o : Row). row_agrees o (links (world_of width s g) x) (store_seconds (world_of width s g) x)) bare,
        λ j. record {
          generation = sym (ap row_generation bare ∙ sym level) j;
          time = sym (ap (λ (o : Option ℤ). if_some o (pos 0) (λ a. a)) sec) j;
        },
      );
}
