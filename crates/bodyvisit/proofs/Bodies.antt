-- The parents of a body: their ids, which were set down end to end, are visited with their seconds in the store. Assumes nothing.
use Rattle.std.specs.Prelude.{None, Some}
use mathlib.Core.Path.{◌≡◌, refl, sym, ap, ◌∙◌, subst}
use Prim.Native.Nat.{ℕ, suc, ◌+◌, ◌*◌, ◌≤◌, ◌<◌}
use mathlib.Core.Bool.{Bool, true, false, not, ◌&&◌}
use mathlib.Core.List.{List, [], ◌∷◌, ◌++◌, map}
use native.Mathlib.Omega.{arith}
use lib.ListN.{length, take, drop, get_or}
use lib.Seq.{length-take-le, take-suc, take_all, get_or-take}
use lib.IntN.{ℤ}
use Rattle.hash.proofs.Widths.{width-most, in_all}
use Rattle.hash.specs.Bytes.{Id, at, set_down, width_of}
use Rattle.hash.proofs.Tests.{by_cases, clash}
use Rattle.object.specs.declared.ObjectId.{ObjectId}
use Rattle.object.specs.Ids.{id_in}
use Rattle.object.specs.Header.{Header, header, most}
use Rattle.object.proofs.Headers.{header_lines, parent-width}
use Rattle.odb.specs.Store.{store_is_ok}
use Rattle.walk.specs.Opening.{parents_room}
use Rattle.walk.specs.declared.Settings.{Settings}
use Rattle.walk.specs.declared.Refusal.TheVariants.{CommitUnreadable, TooManyParents}
use Rattle.walk.specs.Settings.{only_first, followed}
use Rattle.walk.specs.Lookup.{World, world_of, seconds_for}
use Rattle.walk.specs.State.{Walk, is_empty}
use Rattle.walk.specs.Next.{with_seconds, ending}
use Rattle.walk.specs.Given.{joined}
use Rattle.reading.specs.Body.{end_of, refusal_of, parent_id_at, ReadsBody}
use Rattle.reading.specs.declared.body.BodyRead.{BodyRead}
use Rattle.reading.proofs.Down.{Wide, joined_length, joined_at, set_down-start}
use Rattle.reading.proofs.Lines.{parent-right, ending-tree, ending_stopped, ending-read}
use Rattle.reading.proofs.Bodies.{no-ids, followed-one, followed-all}
use Rattle.reading.proofs.Whole.{header-few}
use Rattle.state.specs.declared.Record.{Record}
use Rattle.state.specs.declared.Waiting.{Waiting}
use Rattle.state.specs.Shapes.{waiting_in}
use Rattle.state.specs.Reads.{Memory}
use Rattle.links.specs.Link.{Visits, VisitsStored}
use Rattle.links.specs.Visits.{VisitsAll, VisitsEach}
use Rattle.links.proofs.Visits.{map_snoc, each_none, each_next}
use Rattle.bodyvisit.specs.Body.{stored, Stand, VisitsBodyParent, VisitsParents, VisitsBody}

good-tree : (width : ℕ) (d : List ℕ) (k : ℕ) → k < length (header width d).ids → (header width d).tree ≡ true
good-tree width d k h = by_cases (header width d).tree (λ g. g) (λ g. absurd (omega (arith, h, ap length (no-ids width d g))))

-- the walk's own list of the parents with their seconds
pub seconds-stored : (v : Walk) (l : List Id) → with_seconds v l ≡ stored v.world l
unfolding with_seconds
seconds-stored v [] = refl
seconds-stored v (x ∷ l) = ap (λ (r : List (Id × ℤ)). (x, seconds_for v.world x) ∷ r) (seconds-stored v l)

-- ---- the ids that were set down

-- where the ids of a header stand end to end
module _ (width : ℕ) (d : List ℕ) (n : ℕ) (few : n ≤ length (header width d).ids) where
  wide : Wide width (take n (header width d).ids)
  wide k h =
      let l : k < length (header width d).ids = omega (arith, h, length-take-le n (header width d).ids few, few) in
      ap length (get_or-take n (header width d).ids k [] (omega (arith, h, length-take-le n (header width d).ids few))) ∙ parent-width width d (good-tree width d k l) k l

  pub ids_stand : (b b' : List ℕ) → length b' ≡ length b → (parents_room width ≤ length b → b' ≡ set_down b 0 (joined (take n (header width d).ids))) → Stand width (header width d) n b'
  ids_stand b b' same down = record {
    each = λ room k h.
        let l : List Id = take n (header width d).ids in
        let m : length l ≡ n = length-take-le n (header width d).ids few in
        let fewer : n ≤ most = omega (arith, few, header-few width d) in
        let long : length (joined l) ≤ length b = omega (arith, joined_length width l wide, ap (λ (q : ℕ). width * q) m, in_all width fewer, room, same) in
        ap (λ (c : List ℕ). at c (width * k) width) (down (omega (arith, room, same)) ∙ set_down-start b (joined l) long)
        ∙ joined_at width l (drop (length (joined l)) b) k wide (omega (arith, m, h))
        ∙ get_or-take n (header width d).ids k [] h;
  }

-- ---- the visits

-- parent k of the body d is y
module _ {excluded : List ℕ} {settings : Settings} {store d b : List ℕ} {k : ℕ} {r r' : Record} {m m' : Memory} {y : Id} (v : VisitsStored excluded settings store r m m' y r') where
  -- read again from its line
  pub line-parent : {i : ObjectId} → i.bytes ≡ parent_id_at (width_of settings.kind) d k → y ≡ id_in (width_of settings.kind) i.bytes → VisitsBodyParent excluded settings store d b k r m m' r'
  line-parent {i} e is = record {
    right = λ ok g t n few s h.
        let there : k < length (header (width_of settings.kind) d).ids = omega (arith, h, few) in
        subst (λ (x : Id). Visits excluded settings r m m' x (seconds_for (world_of (width_of settings.kind) store g) x) r') (is ∙ ap (id_in (width_of settings.kind)) e ∙ parent-right (width_of settings.kind) (width-most settings.kind) d k t there) (v.right ok g);
  }

  -- as it stands in b
  pub down-parent : parents_room (width_of settings.kind) ≤ length b → y ≡ at b (width_of settings.kind * k) (width_of settings.kind) → VisitsBodyParent excluded settings store d b k r m m' r'
  down-parent room is = record {
    right = λ ok g t n few s h. subst (λ (x : Id). Visits excluded settings r m m' x (seconds_for (world_of (width_of settings.kind) store g) x) r') (is ∙ s.each room k h) (v.right ok g);
  }

-- after k of the n parents of the body d that stand in b
pub record BodyRun (excluded : List ℕ) (settings : Settings) (store d b : List ℕ) (n k : ℕ) (r : Record) (m m' : Memory) (r' : Record) : Type 0 where
  pub few : k ≤ n
  pub right : store_is_ok (width_of settings.kind) store ≡ true → (g : List ℕ) → n ≤ length (header (width_of settings.kind) d).ids → Stand (width_of settings.kind) (header (width_of settings.kind) d) n b → VisitsEach excluded settings r m m' (stored (world_of (width_of settings.kind) store g) (take k (header (width_of settings.kind) d).ids)) r'

module _ {excluded : List ℕ} {settings : Settings} {store d b : List ℕ} {n : ℕ} {r : Record} {m : Memory} where
  pub body-start : BodyRun excluded settings store d b n 0 r m m r
  body-start = record { few = omega arith; right = λ ok g h s. each_none }

  pub body-next : {k : ℕ} {r' r'' : Record} {m' m'' : Memory} → BodyRun excluded settings store d b n k r m m' r' → k < n → VisitsBodyParent excluded settings store d b k r' m' m'' r''
      → BodyRun excluded settings store d b n (k + 1) r m m'' r''
  body-next {k} {r'} {r''} {m'} {m''} run less one = record {
    few = omega (arith, less);
    right = λ ok g h s.
        let l : List Id = (header (width_of settings.kind) d).ids in
        let w : World = world_of (width_of settings.kind) store g in
        let i : k < length l = omega (arith, h, less) in
        let j : k + 1 ≡ suc k = omega arith in
        let t = good-tree (width_of settings.kind) d k i in
        let e : stored w (take (k + 1) l) ≡ stored w (take k l) ++ ((get_or l k [], seconds_for w (get_or l k [])) ∷ []) =
        ap (λ (q : ℕ). stored w (take q l)) j ∙ ap (stored w) (take-suc l k [] i) ∙ map_snoc (λ (x : Id). (x, seconds_for w x)) (take k l) (get_or l k []) in
        subst (λ (ps : List (Id × ℤ)). VisitsEach excluded settings r m m'' ps r'') (sym e)
        (each_next (get_or l k [], seconds_for w (get_or l k [])) (parent-width (width_of settings.kind) d t k i) (run.right ok g h s) (one.right ok g t n h s less));
  }

  pub body-done : {k : ℕ} {r' : Record} {m' : Memory} → BodyRun excluded settings store d b n k r m m' r' → n ≤ k → VisitsParents excluded settings store d b n r m m' r'
  body-done {k} {r'} {m'} run e =
      let q : k ≡ n = omega (arith, run.few, e) in
      record { right = λ ok g h s. subst (λ (j : ℕ). VisitsEach excluded settings r m m' (stored (world_of (width_of settings.kind) store g) (take j (header (width_of settings.kind) d).ids)) r') q (run.right ok g h s) }

-- ---- what the mode follows

take_one : {A : Type 0} (l : List A) → (take (length (take 1 l)) l ≡ take 1 l) × (length (take 1 l) ≤ length l)
take_one [] = (refl, omega arith)
take_one (x ∷ l) = (refl, omega arith)

pub followed_take : {A : Type 0} (s : Settings) (l : List A) → (take (length (followed s l)) l ≡ followed s l) × (length (followed s l) ≤ length l)
followed_take s l =
    by_cases (only_first s)
    (λ e. rw (followed-one s l e) (take_one l))
    (λ e. rw (followed-all s l e) (take_all (length l) l (omega arith), omega arith))

crowded-end : (h : Header) → refusal_of (end_of h) ≡ Some TooManyParents → h.crowded ≡ true
unfolding end_of
crowded-end h k = go h.crowded h.author refl refl
  where
    go : (c a : Bool) → h.crowded ≡ c → h.author ≡ a → h.crowded ≡ true
    go true a c d = c
    go false true c d = let q : refusal_of (end_of h) ≡ None = rw (c, d) in let z : ◌≡◌ {A = ℕ} 0 1 = cc in absurd (omega arith)
    go false false c d = let q : refusal_of (end_of h) ≡ Some CommitUnreadable = rw (c, d) in let z : ◌≡◌ {A = ℕ} 0 1 = cc in absurd (omega arith)

-- a header is refused for its parents after 256 of them: under First the reading stops after one
pub crowded-followed : (s : Settings) (d : List ℕ) → ending s (header (width_of s.kind) d) ≡ Some TooManyParents → length (followed s (header (width_of s.kind) d).ids) ≡ most
unfolding is_empty
crowded-followed s d e = by_cases h.tree good (λ t. let k = sym (ending-tree s h t) ∙ e in let z : ◌≡◌ {A = ℕ} 0 1 = cc in absurd (omega arith))
  where
    h : Header
    h = header (width_of s.kind) d

    full : h.tree ≡ true → (only_first s && not (is_empty h.ids)) ≡ false → length h.ids ≡ most
    full t f = (header_lines (width_of s.kind) d t).full (crowded-end h (sym (ending-read s h t f) ∙ e))

    all : h.tree ≡ true → (b : Bool) → only_first s ≡ b → (l : List Id) → h.ids ≡ l → (only_first s && not (is_empty h.ids)) ≡ false → length (followed s h.ids) ≡ most
    all t false o l i f = ap length (followed-all s h.ids o) ∙ full t f
    all t true o [] i f = absurd (omega (arith, full t f, ap length i))
    all t true o (x ∷ l) i f = clash (rw (o, i)) f

    good : h.tree ≡ true → length (followed s h.ids) ≡ most
    good t = by_cases (only_first s && not (is_empty h.ids))
        (λ f. let k = sym (ending_stopped s h t f) ∙ e in let z : ◌≡◌ {A = ℕ} 0 1 = cc in absurd (omega arith))
        (λ f. all t (only_first s) refl h.ids refl f)

stored-ids : (w : World) (l : List Id) → map (λ p. p.0) (stored w l) ≡ l
stored-ids w [] = refl
stored-ids w (x ∷ l) = ap (λ (r : List Id). x ∷ r) (stored-ids w l)

pub body_visited : {excluded : List ℕ} {settings : Settings} {store d : List ℕ} {r : Record} {w w' : Waiting} {m m' : Memory} {b b' : List ℕ} {first : Bool} {a : BodyRead} → only_first settings ≡ first
    → length b' ≡ length b → ReadsBody (width_of settings.kind) first (header (width_of settings.kind) d) b b' a → VisitsParents excluded settings store d b' a.parents (waiting_in r w) m m' (waiting_in r w')
    → VisitsBody excluded settings store (header (width_of settings.kind) d) r w m m' b b' (record { after = w'; parents = a.parents; ends = a.ends })
body_visited {excluded} {settings} {store} {d} {r} {w} {w'} {m} {m'} {b} {b'} {first} {a} o same e v = record {
  parents = e.parents settings o;
  ends = e.ends settings o;
  right = λ ok g. subst (λ (k : List Id). VisitsAll excluded settings (waiting_in r w) m m' b b' (stored (world_of (width_of settings.kind) store g) k) (waiting_in r w')) taken (record {
    went = (v.right ok g few (ids_stand (width_of settings.kind) d a.parents few b b' same (λ h. e.down (omega (arith, h))))).went;
    down = λ room. e.down (omega (arith, room)) ∙ ap (λ (k : List Id). set_down b 0 (joined k)) (sym (stored-ids (world_of (width_of settings.kind) store g) (take a.parents (header (width_of settings.kind) d).ids)));
  });
  past = record { same = e.past };
}
  where
    few : a.parents ≤ length (header (width_of settings.kind) d).ids
    few = omega (arith, e.parents settings o, (followed_take settings (header (width_of settings.kind) d).ids).1)

    taken : take a.parents (header (width_of settings.kind) d).ids ≡ followed settings (header (width_of settings.kind) d).ids
    taken = ap (λ (j : ℕ). take j (header (width_of settings.kind) d).ids) (e.parents settings o) ∙ (followed_take settings (header (width_of settings.kind) d).ids).0
