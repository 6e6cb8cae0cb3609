-- One commit read whole: a row tells what `read` of the walk has from the row, a body what it has from the header, and nothing where
-- neither file has the commit. Assumes nothing.
use Rattle.object.specs.declared.HeaderError.TheVariants.{Bad, Crowded}
use Rattle.std.specs.Prelude.{None, Option, Some, Err}
use mathlib.Core.Path.{◌≡◌, refl, sym, ◌∙◌, ap, subst}
use Prim.Native.Nat.{ℕ, ◌≤◌, ◌<◌}
use mathlib.Core.Bool.{Bool, true, false, cond}
use mathlib.Core.List.{List, [], map}
use native.Mathlib.Omega.{arith}
use lib.ListN.{length, get_or, length-map, get_or-map}
use lib.IntN.{ℤ, pos}
use Rattle.hash.specs.Bytes.{Id, if_some, pick}
use Rattle.hash.proofs.Tests.{by_cases}
use Rattle.date.specs.declared.Seconds.{Seconds}
use Rattle.object.specs.Header.{Header, header, most, stamped}
use Rattle.object.specs.Read.{read_as, reading_of, Reading}
use Rattle.object.specs.declared.ObjectId.{ObjectId}
use Rattle.object.proofs.Headers.{header_lines, no_header}
use Rattle.odb.specs.Store.{store_is_ok}
use Rattle.odb.specs.Lookup.{part_of}
use Rattle.odb.specs.declared.Located.TheVariants.{Body as BodyAt}
use Rattle.commitgraph.specs.Graph.{graph_seconds, generation, graph_parents, layout_of, parents_in, parent_list_of}
use Rattle.commitgraph.specs.declared.Layout.{Layout}
use Rattle.commitgraph.specs.declared.Level.{Level}
use Rattle.commit.specs.Find.{GoodCache, found_in, FindsCommit}
use Rattle.commit.specs.declared.Either.{Either}
use Rattle.commit.specs.declared.Either.TheVariants.{CachedCommit, CommitRefIter, Absent}
use Rattle.walk.specs.Lookup.{World, Row as ModelRow, corrupt, row, row_at, Pair, no_generation, Read, fail, good, from_store, read_row, read}
use Rattle.walk.specs.declared.Refusal.{Refusal}
use Rattle.walk.specs.declared.Refusal.TheVariants.{CommitNotFound, CommitUnreadable, TooManyParents}
use Rattle.reading.specs.Files.{layout_under, world_under}
use Rattle.object.specs.Ids.{id_room, padded, id_in}
use Rattle.reading.specs.Row.{row_parent}
use Rattle.reading.specs.Body.{no_bytes, parent_id_at}
use Rattle.reading.specs.Whole.{pair_in, row_commit, body_commit, Tells, Names, IsRead, parent_count, commit_at, ReadsCommit, ParentAt, GivesParent}
use Rattle.reading.specs.declared.Commit.{Commit}
use Rattle.reading.specs.declared.Commit.TheVariants.{Row, Body, Failed}
use Rattle.walk.specs.declared.GenThenTime.{GenThenTime}
use Rattle.object.proofs.IdBytes.{id_in_lem}
use Rattle.reading.proofs.World.{RowFound, found-row, found-body, found-absent}
use Rattle.reading.proofs.Rows.{parent_at, list-good, list_broken, list-few, row-width, row_parent-right}
use Rattle.reading.proofs.Lines.{parent-right}

-- ---- a row

pub row-good : (p : ℕ) {n : ℕ} {v : Level} {t : Seconds} (w : GenThenTime) (o : Option (List ℕ)) → Some n ≡ parent_list_of o → v.0 ≡ w.generation.0 → t.0 ≡ w.time.0
    → Row p n (record { generation = v; time = t }) ≡ row_commit p w o
row-good p {n} {v} {t} w o e f k =
    let r = list-good o n e in
    ap (λ (m : ℕ). Row p m (record { generation = v; time = t })) r.2 ∙ ap (λ (q : GenThenTime). Row p (length r.0) q) same ∙ ap (row_commit p w) (sym r.1)
  where
    same : ◌≡◌ {A = GenThenTime} (record { generation = v; time = t }) w
    same = λ i. record { generation = record { 0 = f i }; time = record { 0 = k i } }

pub row-bad : (p : ℕ) (w : GenThenTime) (o : Option (List ℕ)) → None ≡ parent_list_of o → Failed CommitUnreadable ≡ row_commit p w o
row-bad p w o e = ap (row_commit p w) (sym (list_broken o e))

tells_row : (w : ℕ) (v : World) (x : Id) (g : List ℕ) (p : ℕ) → Tells (row_commit p (pair_in w g (layout_of w g) p) (graph_parents w g p)) (read_row v x (row_at w g p))
unfolding row_at read_row generation graph_seconds
tells_row w v x g p = go (graph_parents w g p) refl
  where
    go : (o : Option (List ℕ)) → graph_parents w g p ≡ o → Tells (row_commit p (pair_in w g (layout_of w g) p) o) (read_row v x (row_at w g p))
    go None k = rw k
    go (Some qs) k = record {
      parents = map (λ q. q.0) (map (parent_at w g) qs);
      is = rw k;
      count = sym (length-map (map (parent_at w g) qs) (λ q. q.0) ∙ length-map qs (parent_at w g));
    }

names-row : (p a b : ℕ) (w : GenThenTime) (o : Option (List ℕ)) {e : Either} → e ≡ CachedCommit p a b → Names (row_commit p w o) e
names-row p a b w None f = tt
names-row p a b w (Some qs) f = (a, b, f)

-- a row that was found
row_is_read : {w : ℕ} {c : Option Layout} {g s : List ℕ} {x : Id} (p a b : ℕ) → GoodCache w c g → found_in w c g s x ≡ CachedCommit p a b → IsRead w c g s x (commit_at w c g s (CachedCommit p a b))
unfolding read graph_parents
row_is_read {w} {c} {g} {s} {x} p a b t f =
    let r : RowFound w c g s x p = found-row w c g s x p a b t f in
    subst (λ (l : Layout). IsRead w c g s x (row_commit p (pair_in w g l p) (parents_in w g l p))) (sym r.layout)
    (record {
      tells = subst (λ (d : ModelRow). Tells (row_commit p (pair_in w g (layout_of w g) p) (graph_parents w g p)) (read_row (world_under w c g s) x d)) (sym r.says) (tells_row w (world_under w c g s) x g p);
      names = names-row p a b (pair_in w g (layout_of w g) p) (graph_parents w g p) f;
    })

-- ---- a body

-- the commit of a body that is given by its bytes
pub body-commit : (w : ℕ) {r : Commit} (a e : ℕ) {b d : List ℕ} → r ≡ body_commit a e (reading_of (header w b)) → b ≡ d → r ≡ body_commit a e (reading_of (header w d))
body-commit w a e p f = p ∙ ap (λ (c : List ℕ). body_commit a e (reading_of (header w c))) f

-- the commit m of the body from a to e, whose header reads as d and has n parents
pub record BodyTold (a e n : ℕ) (d : Read) (m : Commit) : Type 0 where
  pub tells : Tells m d
  pub few : parent_count m ≤ n
  pub names : (f : Either) → f ≡ CommitRefIter a e → Names m f

told-failed : (a e n : ℕ) (r : Refusal) → BodyTold a e n (fail r) (Failed r)
told-failed a e n r = record { tells = refl; few = omega arith; names = λ f k. tt }

-- the header's lines decide in their order
pub body-told : (a e : ℕ) (h : Header) → BodyTold a e (length h.ids) (from_store (Some h)) (body_commit a e (reading_of h))
unfolding reading_of from_store
body-told a e h = go h.tree h.crowded h.author h.seconds
  where
    whole : Option ℤ → Read
    whole o = if_some o (fail CommitUnreadable) (λ s. good h.ids (record { generation = no_generation; time = s }))

    go : (t c u : Bool) (o : Option ℤ)
        → BodyTold a e (length h.ids)
        (cond t (cond c (fail TooManyParents) (cond u (whole o) (fail CommitUnreadable))) (fail CommitUnreadable))
        (body_commit a e (pick t (pick c (Err Crowded) (pick u (read_as (length h.ids) (stamped o h.zone)) (Err Bad))) (Err Bad)))
    go false c u o = told-failed a e (length h.ids) CommitUnreadable
    go true true u o = told-failed a e (length h.ids) TooManyParents
    go true false false o = told-failed a e (length h.ids) CommitUnreadable
    go true false true None = told-failed a e (length h.ids) CommitUnreadable
    go true false true (Some s) = record {
      tells = record { parents = h.ids; is = refl; count = refl };
      few = omega arith;
      names = λ f k. k;
    }

-- a header has at most 256 parents
pub header-few : (w : ℕ) (b : List ℕ) → length (header w b).ids ≤ most
header-few w b =
    by_cases (header w b).tree
    (λ g. (header_lines w b g).few)
    (λ g. let n : length (header w b).ids ≡ 0 = ap (λ (h : Header). length h.ids) (no_header w b g) in omega arith)

-- a body that was found
body_is_read : {w : ℕ} {c : Option Layout} {g s : List ℕ} {x : Id} (a e : ℕ) → store_is_ok w s ≡ true → found_in w c g s x ≡ CommitRefIter a e → IsRead w c g s x (commit_at w c g s (CommitRefIter a e))
unfolding read read_row
body_is_read {w} {c} {g} {s} {x} a e ok f =
    let r = found-body w c g s x a e ok f in
    let b = body-told a e (header w (part_of s (BodyAt a e))) in
    record { tells = rw (r.0, r.1) b.tells; names = b.names (found_in w c g s x) f }

-- neither
none_is_read : {w : ℕ} {c : Option Layout} {g s : List ℕ} {x : Id} → found_in w c g s x ≡ Absent → IsRead w c g s x (Failed CommitNotFound)
unfolding read read_row from_store
none_is_read {w} {c} {g} {s} {x} f = let r = found-absent w c g s x f in record { tells = rw (r.0, r.1); names = tt }

-- ---- what `find` found, read

pub reads-found : {w : ℕ} {c : Option Layout} {g s : List ℕ} {x : Id} {e : Either} {r : Commit} (f : Either) → FindsCommit w c g s x e → e ≡ f → r ≡ commit_at w c g s f → ReadsCommit w c g s x r
reads-found {w} {c} {g} {s} {x} f k i e = record { found = f; finds = subst (FindsCommit w c g s x) i k; is = e }

-- in good files it is what the walk's world has
pub commit-right : {w : ℕ} {c : Option Layout} {g s : List ℕ} {x : Id} {r : Commit} → ReadsCommit w c g s x r → store_is_ok w s ≡ true → GoodCache w c g → IsRead w c g s x r
commit-right {w} {c} {g} {s} {x} {r} k ok t = subst (IsRead w c g s x) (sym k.is) (go k.found (sym (k.finds.good ok t)))
  where
    go : (f : Either) → found_in w c g s x ≡ f → IsRead w c g s x (commit_at w c g s f)
    go (CachedCommit p a b) e = row_is_read p a b t e
    go (CommitRefIter a b) e = body_is_read a b ok e
    go Absent e = none_is_read e

-- on any bytes it has at most 256 parents
pub commit-few : {w : ℕ} {c : Option Layout} {g s : List ℕ} {x : Id} {r : Commit} → ReadsCommit w c g s x r → parent_count r ≤ most
commit-few {w} {c} {g} {s} {x} {r} k = subst (λ (m : Commit). parent_count m ≤ most) (sym k.is) (go k.found)
  where
    go : (f : Either) → parent_count (commit_at w c g s f) ≤ most
    go (CachedCommit p a b) = list-few w g (layout_under c) p (λ o. parent_count (row_commit p (pair_in w g (layout_under c) p) o)) refl (λ ps. refl)
    go (CommitRefIter a b) = omega (arith, (body-told a b (header w (part_of s (BodyAt a b)))).few, header-few w (part_of s (BodyAt a b)))
    go Absent = omega arith

-- ---- a parent

-- what was read is a row's, if the row is good
from_row : (w : ℕ) (v : World) (x : Id) (g : List ℕ) (p : ℕ) (ps : List Id) (q : Pair) → read_row v x (row_at w g p) ≡ good ps q
    → (qs : List (Id × ℤ)) × (l : ℕ) × (t : ℤ) × (row_at w g p ≡ row qs l t) × (ps ≡ map (λ a. a.0) qs)
unfolding row_at read_row
from_row w v x g p ps q e = go (graph_parents w g p) refl e
  where
    go : (o : Option (List ℕ)) → graph_parents w g p ≡ o
        → read_row v x (if_some o corrupt (λ qs. row (map (parent_at w g) qs) (generation w g p) (graph_seconds w g p))) ≡ good ps q
        → (qs : List (Id × ℤ)) × (l : ℕ) × (t : ℤ) × (row_at w g p ≡ row qs l t) × (ps ≡ map (λ a. a.0) qs)
    go None k e' = let z : ◌≡◌ {A = ℕ} 0 1 = cc in absurd (omega arith)
    go (Some qs) k e' = (map (parent_at w g) qs, generation w g p, graph_seconds w g p, rw k, cc)

pub from-body : (h : Header) (ps : List Id) (q : Pair) → from_store (Some h) ≡ good ps q → (h.tree ≡ true) × (h.ids ≡ ps)
unfolding from_store
from-body h ps q e = go h.tree h.crowded h.author h.seconds refl e
  where
    whole : Option ℤ → Read
    whole o = if_some o (fail CommitUnreadable) (λ s. good h.ids (record { generation = no_generation; time = s }))

    go : (t c u : Bool) (o : Option ℤ) → h.tree ≡ t
        → cond t (cond c (fail TooManyParents) (cond u (whole o) (fail CommitUnreadable))) (fail CommitUnreadable) ≡ good ps q
        → (h.tree ≡ true) × (h.ids ≡ ps)
    go false c u o k f = let z : ◌≡◌ {A = ℕ} 0 1 = cc in absurd (omega arith)
    go true true u o k f = let z : ◌≡◌ {A = ℕ} 0 1 = cc in absurd (omega arith)
    go true false false o k f = let z : ◌≡◌ {A = ℕ} 0 1 = cc in absurd (omega arith)
    go true false true None k f = let z : ◌≡◌ {A = ℕ} 0 1 = cc in absurd (omega arith)
    go true false true (Some s) k f = (k, cc)

pub parent_of_row : {w : ℕ} {c : Option Layout} {g s : List ℕ} {k : ℕ} {y : Id} {r : ObjectId} {l : Layout} (p n : ℕ) (v : GenThenTime) → l ≡ layout_under c → y ≡ row_parent w g l p k → r.bytes ≡ padded y
    → GivesParent w c g s (Row p n v) k r
parent_of_row {w} {g = g} {k = k} p n v own give e = record { is = e ∙ ap padded (give ∙ ap (λ (m : Layout). row_parent w g m p k) own) }

pub parent_of_body : {w : ℕ} {c : Option Layout} {g s : List ℕ} {k : ℕ} {b : List ℕ} {r : ObjectId} (a e n : ℕ) (v : GenThenTime) → b ≡ part_of s (BodyAt a e) → r.bytes ≡ parent_id_at w b k
    → GivesParent w c g s (Body a e n v) k r
parent_of_body {w} {k = k} a e n v same give = record { is = give ∙ ap (λ (d : List ℕ). parent_id_at w d k) same }

pub parent_of_failed : {w : ℕ} {c : Option Layout} {g s : List ℕ} {k : ℕ} {r : ObjectId} (n : Refusal) → r.bytes ≡ no_bytes → GivesParent w c g s (Failed n) k r
parent_of_failed n e = record { is = e }

-- in good files: of a row, the id in its value is the part of the file, since that has an id's width
row-parent_at : (w : ℕ) → w ≤ id_room → (c : Option Layout) (g s : List ℕ) (k : ℕ) (x : Id) {z : Id} (p a b : ℕ) → GoodCache w c g → found_in w c g s x ≡ CachedCommit p a b → z ≡ padded (row_parent w g (layout_under c) p k)
    → (ps : List Id) (q : Pair) → read (world_under w c g s) x ≡ good ps q → k < length ps → id_in w z ≡ get_or ps k []
unfolding read
row-parent_at w small c g s k x p a b t names e ps q f h =
    let v : World = world_under w c g s in
    let y : Id = row_parent w g (layout_under c) p k in
    let found : RowFound w c g s x p = found-row w c g s x p a b t names in
    let parts = from_row w v x g p ps q (ap (read_row v x) (sym found.says) ∙ f) in
    let m : k < length parts.0 = omega (arith, ap length parts.4, length-map parts.0 (λ (a : Id × ℤ). a.0)) in
    let here : y ≡ (get_or parts.0 k ([], pos 0)).0 = row_parent-right w g p k found.layout parts.0 parts.1 parts.2 parts.3 m in
    let wide = row-width w g p parts.0 parts.1 parts.2 parts.3 found.file k m in
    ap (id_in w) e ∙ id_in_lem w y (ap length here ∙ wide) small ∙ here ∙ sym (get_or-map (λ (a : Id × ℤ). a.0) parts.0 k ([], pos 0))
    ∙ ap (λ (l : List Id). get_or l k []) (sym parts.4)

body-parent_at : (w : ℕ) → w ≤ id_room → (c : Option Layout) (g s : List ℕ) (k : ℕ) (x : Id) {z : Id} (a e : ℕ) → store_is_ok w s ≡ true → found_in w c g s x ≡ CommitRefIter a e → z ≡ parent_id_at w (part_of s (BodyAt a e)) k
    → (ps : List Id) (q : Pair) → read (world_under w c g s) x ≡ good ps q → k < length ps → id_in w z ≡ get_or ps k []
unfolding read read_row
body-parent_at w small c g s k x a e ok names give ps q f h =
    let found = found-body w c g s x a e ok names in
    let parts = from-body (header w (part_of s (BodyAt a e))) ps q (rw (found.0, found.1) at f) in
    ap (id_in w) give ∙ parent-right w small (part_of s (BodyAt a e)) k parts.0 (omega (arith, ap length parts.1)) ∙ ap (λ (l : List Id). get_or l k []) parts.1

pub commit_parent_right : {w : ℕ} → w ≤ id_room → {c : Option Layout} {g s : List ℕ} {m : Commit} {k : ℕ} {r : ObjectId} → GivesParent w c g s m k r → store_is_ok w s ≡ true → GoodCache w c g → (x : Id) → IsRead w c g s x m
    → (ps : List Id) (q : Pair) → read (world_under w c g s) x ≡ good ps q → k < length ps → id_in w r.bytes ≡ get_or ps k []
commit_parent_right {w} small {c} {g} {s} {m} {k} {r} v ok t x is ps q f h = go m v.is is
  where
    go : (m : Commit) → ParentAt w c g s m k r.bytes → IsRead w c g s x m → id_in w r.bytes ≡ get_or ps k []
    go (Row p n v) a i = row-parent_at w small c g s k x p i.names.0 i.names.1 t i.names.2 a ps q f h
    go (Body b e n v) a i = body-parent_at w small c g s k x b e ok i.names a ps q f h
    go (Failed n) a i = let j = sym i.tells ∙ f in let z : ◌≡◌ {A = ℕ} 0 1 = cc in absurd (omega arith)
