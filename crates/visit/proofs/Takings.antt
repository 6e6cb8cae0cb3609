-- Taking the next commit is the walk's own step: the row or the body that the two files have decides its case, the visits give its state, and the
-- running numbers are those that the record reads as. Assumes nothing.
use Rattle.std.specs.Prelude.{None, Option, Some}
use mathlib.Core.Path.{◌≡◌, refl, sym, ap, ◌∙◌, subst}
use Prim.Native.Nat.{ℕ, ◌+◌, ◌-◌, ◌≤◌, ◌<◌}
use mathlib.Core.Bool.{Bool, true, false, cond, ◌||◌}
use mathlib.Core.List.{List, [], ◌∷◌, map, Memᴰ}
use native.Mathlib.Omega.{arith}
use lib.ListN.{length, take, get_or, length-map}
use lib.IntN.{ℤ}
use Rattle.hash.specs.Bytes.{Id, width_of, set_down}
use Rattle.hash.specs.declared.Kind as Kinds
use Rattle.hash.proofs.Tests.{by_cases, clash, no-some, some_in}
use Rattle.date.specs.declared.Seconds.{Seconds}
use Rattle.object.specs.Ids.{padded, id_in}
use Rattle.object.specs.Header.{Header, header, most}
use Rattle.odb.specs.Store.{store_is_ok}
use Rattle.odb.specs.Lookup.{Locates, part_of}
use Rattle.odb.specs.declared.Located.{Located}
use Rattle.odb.specs.declared.Located.TheVariants.{Body, Absent}
use Rattle.commitgraph.specs.Graph.{graph_ok, layout_of, parents_in}
use Rattle.commitgraph.specs.declared.Layout.{Layout}
use Rattle.commitgraph.specs.declared.Level.{Level}
use Rattle.walk.specs.Opening.{parents_room}
use Rattle.walk.specs.declared.Settings.{Settings}
use Rattle.walk.specs.declared.Outcome.{Outcome}
use Rattle.walk.specs.declared.Outcome.TheVariants.{Commit, End, Refused}
use Rattle.walk.specs.declared.Refusal.{Refusal}
use Rattle.walk.specs.declared.Refusal.TheVariants.{CommitNotFound, CommitUnreadable, TooManyParents}
use Rattle.walk.specs.Settings.{followed, by_time}
use Rattle.walk.specs.Lookup.{seconds_for, World, Row, row, no_row, row_at, world_of}
use Rattle.walk.specs.State.{Walk, State, with_queue, is_empty}
use Rattle.walk.specs.Next.{Kind, end, refused, handed, level_shown, Step, step, zoned, zone_shown, visit_all, with_seconds, queued_seconds, ending, kind_of, step_from_row, from_body, take_store, dropped, back, take_row, take_queue, take_next}
use Rattle.walk.specs.Given.{no_id, outcome_of, id_of_kind, level_given, level_of_kind, seconds_of_kind, seconds_given, joined, given, parents_given}
use Rattle.walk.proofs.Take.{followed_sub, followed_map, mem_map, with_seconds_lem}
use Rattle.reading.specs.Body.{refusal_of}
use Rattle.reading.specs.declared.body.BodyEnd.{BodyEnd}
use Rattle.reading.specs.declared.body.BodyEnd.TheVariants.{Whole, Unreadable, Crowded}
use Rattle.commit.specs.Find.{GoodCache, found_in, FindsCommit, part_in_store}
use Rattle.commit.proofs.Parts.{found-slice}
use Rattle.commit.specs.declared.Either.{Either}
use Rattle.commit.specs.declared.Either.TheVariants.{CachedCommit, CommitRefIter, Absent as Either-as-Absent}
use Rattle.reading.specs.Files.{cache_with, cache_of, world_under}
use Rattle.reading.specs.Row.{row_with, level_of, row_read_of}
use Rattle.reading.specs.declared.row.RowRead.{RowRead}
use Rattle.reading.proofs.Down.{set_down-none}
use Rattle.reading.proofs.World.{located_body, located_none, good-cache, kept-world, dropped-world, same_store, found-row, found-body, found-absent}
use Rattle.reading.proofs.Rows.{row-few, row_is, row-torn, row-counted}
use Rattle.reading.proofs.Whole.{header-few}
use Rattle.state.specs.declared.Fixed.{Fixed}
use Rattle.state.specs.declared.Record.{Record}
use Rattle.state.specs.Reads.{Memory, Shape, Reads}
use Rattle.state.specs.declared.Next.{Next}
use Rattle.state.specs.declared.Waiting.{Waiting}
use Rattle.state.specs.Shapes.{fixed_of, shape_for, back_to, waiting_in}
use Rattle.state.specs.Steps.{mem, Pops, Drops}
use Rattle.state.proofs.States.{queue-length}
use Rattle.state.proofs.Shapes.{back-shape}
use Rattle.bodyvisit.specs.declared.body.BodyVisited.{BodyVisited}
use Rattle.visit.specs.declared.next.Taken.{Taken}
use Rattle.links.specs.Link.{GoesBy, Ready}
use Rattle.links.specs.Visits.{VisitsAll}
use Rattle.links.proofs.Visits.{past-none}
use Rattle.rowvisit.specs.Row.{visited, Follows, VisitsRow, VisitedBy, VisitsCached}
use Rattle.rowvisit.specs.declared.row.RowVisited.{RowVisited}
use Rattle.bodyvisit.specs.Body.{VisitsBody, stored}
use Rattle.visit.specs.Taking.{gave, time_given, end_given, EndsBody, Rests, Gives, InRows, InStore, Popped, TakesBody, TakesStored, TakesCached, TakesNext}
use Rattle.visit.specs.Plain.{Plain}
use Rattle.visit.proofs.Past.{plain_end, plain-bare, counted-lost, plain-ends}
use Rattle.bodyvisit.proofs.Bodies.{followed_take, crowded-followed, seconds-stored}

-- ---- an answer as the code gives it

module _ {sh : Shape} {m m' : Memory} {b b' : List ℕ} {r : Record} {st : State} where
  pub gives-zoned : (k : Kind) (ps : List Id) (y : Option ℤ) {o : Outcome} {x : Id} {n : ℕ} {l : Option Level} {t : Option Seconds} → Reads r m' sh st → o ≡ outcome_of k → x ≡ id_of_kind k → n ≡ length ps
      → l ≡ level_of_kind k → t ≡ seconds_of_kind k → b' ≡ set_down b 0 (joined ps) → ((j : ℕ) → sh.cap + sh.cap ≤ j → get_or m'.line j 0 ≡ get_or m.line j 0)
      → Gives sh m m' b b' (gave o x n l t y r) (zoned y (step k ps st))
  unfolding given step parents_given
  gives-zoned k ps y g o x n l t d w = record {
    answer = λ i. record {
      outcome = o i;
      info = record { id = x i; parents = n i; generation = l i; time = t i; zone = y };
      admitted = sym g.admitted i;
      struck = sym g.struck i;
      waiting = sym (queue-length g) i;
    };
    down = d;
    reads = g;
    line_kept = w;
  }

  pub gives-step : (k : Kind) (ps : List Id) {o : Outcome} {x : Id} {n : ℕ} {l : Option Level} {t : Option Seconds} → Reads r m' sh st → o ≡ outcome_of k → x ≡ id_of_kind k → n ≡ length ps → l ≡ level_of_kind k
      → t ≡ seconds_of_kind k → b' ≡ set_down b 0 (joined ps) → ((j : ℕ) → sh.cap + sh.cap ≤ j → get_or m'.line j 0 ≡ get_or m.line j 0) → Gives sh m m' b b' (gave o x n l t None r) (step k ps st)
  unfolding step
  gives-step k ps g o x n l t d w = gives-zoned k ps None g o x n l t d w

-- the seconds that a commit was queued with
pub time-right : {v : Walk} {sh : Shape} {excluded : List ℕ} {settings : Settings} {r : Record} {m : Memory} {st : State} → GoesBy v sh excluded settings → Reads r m sh st → (s : Seconds) (t : ℤ)
    → (sh.timed ≡ true → s.0 ≡ t) → time_given r.queue.timed s ≡ seconds_given (queued_seconds v t)
unfolding queued_seconds
time-right {v} {sh} {excluded} {settings} {r} by g s t e =
    let p : sh.timed ≡ by_time settings = ap (λ (q : Shape). q.timed) by.shape in
    let q : by_time v.settings ≡ by_time settings = ap by_time by.same-settings in
    by_cases sh.timed
    (λ k.
    let h : r.queue.timed ≡ true = g.timed ∙ k in
    let i : by_time v.settings ≡ true = q ∙ sym p ∙ k in
    ap (λ (c : Bool). time_given c s) h ∙ ap (λ (z : ℤ). Some (record { 0 = z })) (e k) ∙ ap (λ (c : Bool). seconds_given (cond c (Some t) None)) (sym i))
    (λ k.
    let h : r.queue.timed ≡ false = g.timed ∙ k in
    let i : by_time v.settings ≡ false = q ∙ sym p ∙ k in
    ap (λ (c : Bool). time_given c s) h ∙ ap (λ (c : Bool). seconds_given (cond c (Some t) None)) (sym i))

-- ---- from the row

module _ {sh : Shape} {r : Record} {m : Memory} {st : State} {u : List Id} where
  -- n of the 256
  part-ready : (n : ℕ) → n ≤ 256 → Ready sh r m st u 256 → Ready sh r m st u (n + (256 - n))
  part-ready n h d = let e : 256 ≡ n + (256 - n) = omega arith in subst (λ (j : ℕ). Ready sh r m st u j) e d

-- the commit x, queued with t seconds and out of the queue already, from its row
record TakesRow (excluded : List ℕ) (settings : Settings) (g : List ℕ) (l : Layout) (p n : ℕ) (c : Level) (r : Record) (x : Id) (t : ℤ) (m m' : Memory) (b b' : List ℕ) (a : Taken) : Type 0 where
  right : graph_ok (width_of settings.kind) g ≡ true → l ≡ layout_of (width_of settings.kind) g → (ps : List (Id × ℤ)) (s : ℤ) → row_at (width_of settings.kind) g p ≡ row ps c.0 s → n ≡ length ps → (v : Walk) (sh : Shape) (st : State) (u : List Id) (t' : ℤ)
      → GoesBy v sh excluded settings → Ready sh r m st u 256 → ((q : Id) → Memᴰ q (map (λ q. q.0) ps) → Memᴰ q u) → (sh.timed ≡ true → t ≡ t') → parents_room (width_of settings.kind) ≤ length b
      → Gives sh m m' b b' a (step_from_row v st x t' ps c.0)
  plain : n ≤ most → length x ≡ width_of settings.kind → Plain (width_of settings.kind) b b' a.answer

takes_row : {excluded : List ℕ} {settings : Settings} {g : List ℕ} {l : Layout} {p n k : ℕ} {c : Level} {r r' : Record} {x : Id} {s : Seconds} {m m' : Memory} {b b' : List ℕ}
    → Follows settings n k → VisitsRow excluded settings g l p k r m m' b b' r'
    → TakesRow excluded settings g l p n c r x s.0 m m' b b' (gave Commit (padded x) k (level_given (level_shown c.0)) (time_given r'.queue.timed s) None r')
unfolding step_from_row
takes_row {excluded} {settings} {g} {l} {p} {n} {k} {c} {r} {r'} {x} {s} {m} {m'} {b} {b'} f w = record {
  right = λ ok own ps q e i v sh st u t' by d j t z.
      let fs : List (Id × ℤ) = followed v.settings ps in
      let same : followed settings ps ≡ fs = ap (λ (a : Settings). followed a ps) (sym by.same-settings) in
      let much = followed_take settings ps in
      let cut : take k ps ≡ fs = ap (λ (a : ℕ). take a ps) (f.right ps i) ∙ much.0 ∙ same in
      let many : k ≡ length fs = f.right ps i ∙ ap length same in
      let low : length fs ≤ length ps = omega (arith, much.1, f.right ps i, many) in
      let all = subst (λ (a : List (Id × ℤ)). VisitsAll excluded settings r m m' b b' a r') cut (w.right ok own ps c.0 q e (omega (arith, many, low))) in
      let short : length fs ≤ 256 = omega (arith, low, row-few (width_of settings.kind) g p ps c.0 q e) in
      let went = all.went v sh st u (256 - length fs) by (part-ready (length fs) short d)
      (λ a y. j a.0 (followed_sub v.settings a.0 (map (λ (q : Id × ℤ). q.0) ps)
      (rw (followed_map v.settings (λ (q : Id × ℤ). q.0) ps) at (mem_map (λ (q : Id × ℤ). q.0) a fs y)))) in
      gives-step (handed x (level_shown c.0) (queued_seconds v t')) (map (λ a. a.0) fs) went.ready.reads refl refl (many ∙ sym (length-map fs (λ (a : Id × ℤ). a.0))) refl
      (time-right by went.ready.reads s t' t) (all.down z) went.line_kept;
  plain = λ h wide. record { shape = (x, wide, refl); few = omega (arith, h, f.few); past = w.past.same };
}

-- ---- from the body

-- the kind of an answer after a body's parents, whose header has the zone y
ends-kind : {sh : Shape} {m m' : Memory} {b b' : List ℕ} {r : Record} {st : State} (e : BodyEnd) (o : Option Refusal) (ps : List Id) (x : Id) (z y : Option ℤ) {n : ℕ} {t : Option Seconds} → refusal_of e ≡ o
    → Reads r m' sh st → n ≡ length ps → t ≡ seconds_given z → b' ≡ set_down b 0 (joined ps) → ((j : ℕ) → sh.cap + sh.cap ≤ j → get_or m'.line j 0 ≡ get_or m.line j 0)
    → Gives sh m m' b b' (end_given e x n t y r) (zoned (zone_shown o y) (step (kind_of o (handed x None z)) ps st))
unfolding kind_of
ends-kind Whole o ps x z y e g n t d w = rw (sym e) (gives-zoned (handed x None z) ps y g refl refl n refl t d w)
ends-kind Unreadable o ps x z y e g n t d w = rw (sym e) (gives-zoned (refused CommitUnreadable) ps None g refl refl n refl refl d w)
ends-kind Crowded o ps x z y e g n t d w = rw (sym e) (gives-zoned (refused TooManyParents) ps None g refl refl n refl refl d w)

map_stored : (w : World) (l : List Id) → map (λ p. p.0) (stored w l) ≡ l
map_stored w [] = refl
map_stored w (x ∷ l) = ap (λ (r : List Id). x ∷ r) (map_stored w l)

-- a zone counts where the commit is handed out alone
same_end : (e : BodyEnd) (x : Id) (n : ℕ) (t : Option Seconds) (r : Record) {z y : Option ℤ} → (e ≡ Whole → z ≡ y) → end_given e x n t z r ≡ end_given e x n t y r
same_end Whole x n t r h = ap (λ (q : Option ℤ). gave Commit (padded x) n None t q r) (h refl)
same_end Unreadable x n t r h = refl
same_end Crowded x n t r h = refl

-- a header that is not refused has a good tree line
whole-tree : (s : Settings) (h : Header) → ending s h ≡ None → h.tree ≡ true
unfolding ending
whole-tree s h e = by_cases h.tree (λ c. c) (λ c. let z : ◌≡◌ {A = ℕ} 0 1 = cc in absurd (omega arith))

pub takes_body : (d : List ℕ) {excluded : List ℕ} {settings : Settings} {store : List ℕ} {r : Record} {w₀ : Waiting} {x : Id} {s : Seconds} {m m' : Memory} {b b' : List ℕ} {seen : BodyVisited} {a : Taken}
    → VisitsBody excluded settings store (header (width_of settings.kind) d) r w₀ m m' b b' seen → EndsBody r seen (header (width_of settings.kind) d) x (time_given w₀.queue.timed s) a → length x ≡ width_of settings.kind
    → TakesBody excluded settings store (header (width_of settings.kind) d) (waiting_in r w₀) x s.0 m m' b b' a
unfolding from_body
takes_body d {excluded} {settings} {store} {r} {w₀} {x} {s} {m} {m'} {b} {b'} {seen} {a} w k wide = record {
  right = λ ok g v sh st u t' by own there e j t z.
      let h : Header = header (width_of settings.kind) d in
      let fs : List Id = followed v.settings h.ids in
      let same : followed settings h.ids ≡ fs = ap (λ (q : Settings). followed q h.ids) (sym by.same-settings) in
      let all = subst (λ (q : List Id). VisitsAll excluded settings (waiting_in r w₀) m m' b b' (stored (world_of (width_of settings.kind) store g) q) (waiting_in r seen.after)) same (w.right ok g) in
      let ps : List (Id × ℤ) = stored (world_of (width_of settings.kind) store g) fs in
      let many : length ps ≡ length fs = length-map fs (λ q. (q, seconds_for (world_of (width_of settings.kind) store g) q)) in
      let short : length ps ≤ 256 = omega (arith, many, (followed_take v.settings h.ids).1, header-few (width_of settings.kind) d) in
      let list : with_seconds v fs ≡ ps = seconds-stored v fs ∙ ap (λ (q : World). stored q fs) own in
      let went = all.went v sh st u (256 - length ps) by (part-ready (length ps) short e)
      (λ q c. j.inside x q.0 h there (followed_sub v.settings q.0 h.ids (with_seconds_lem v fs q (subst (λ (l : List (Id × ℤ)). Memᴰ q l) (sym list) c)).0)) in
      let reads = subst (λ (l : List (Id × ℤ)). Reads (waiting_in r seen.after) m' sh (visit_all v st l)) (sym list) went.ready.reads in
      let down = all.down z ∙ ap (λ (l : List Id). set_down b 0 (joined l)) (map_stored (world_of (width_of settings.kind) store g) fs) in
      subst (λ (q : Taken). Gives sh m m' b b' q (zoned (zone_shown (ending v.settings h) h.zone) (step (kind_of (ending v.settings h) (handed x None (queued_seconds v t'))) fs (visit_all v st (with_seconds v fs))))) (sym (k.is ∙ same_end seen.ends x seen.parents (time_given w₀.queue.timed s) (waiting_in r seen.after) (λ c. k.right (whole-tree settings h (sym w.ends ∙ ap refusal_of c)) (omega (arith, w.parents, (followed_take settings h.ids).1)) c)))
      (ends-kind seen.ends (ending v.settings h) fs x (queued_seconds v t') h.zone (w.ends ∙ ap (λ (q : Settings). ending q h) (sym by.same-settings)) reads (w.parents ∙ ap length same)
      (time-right by e.reads s t' t) down went.line_kept);
  plain =
      let h : Header = header (width_of settings.kind) d in
      let short : seen.parents ≤ most = omega (arith, w.parents, (followed_take settings h.ids).1, header-few (width_of settings.kind) d) in
      let full : seen.ends ≡ Crowded → seen.parents ≡ most = λ z. w.parents ∙ crowded-followed settings d (sym w.ends ∙ ap refusal_of z) in
      subst (λ (q : Taken). Plain (width_of settings.kind) b b' q.answer) (sym k.is) (plain-ends seen.ends x (time_given w₀.queue.timed s) k.zone (waiting_in r seen.after) wide full short w.past);
}

-- the store does not have the commit
absent_gives : {sh : Shape} {m : Memory} {b : List ℕ} {r : Record} {st : State} (v : Walk) (x : Id) (t : ℤ) → Reads r m sh st
    → Gives sh m m b b (gave (Refused CommitNotFound) no_id 0 None None None r) (from_body v st x t None)
unfolding from_body joined
absent_gives {b = b} v x t g = gives-step (refused CommitNotFound) [] g refl refl refl refl refl (set_down-none b) (λ k h. refl)

pub plain-absent : {width : ℕ} {b : List ℕ} (r : Record) → Plain width b b (gave (Refused CommitNotFound) no_id 0 None None None r).answer
plain-absent r = plain-bare r (omega arith, omega arith) counted-lost (omega arith) past-none

-- ---- the first of the queue

popped : {sh : Shape} {r : Record} {names marks : List ℕ} {times : List ℤ} {line line' : List ℕ} {st : State} {u : List Id} {n : Next} (y : Id × ℤ) (l : List (Id × ℤ))
    → Rests sh r (mem names marks times line) st u → Pops r names times line line' (Some n) → st.queue ≡ y ∷ l → Popped sh r (mem names marks times line') st u y l n
popped {sh} {marks = marks} {st = st} y l d p e = record { taken = p.told.some marks sh st y.0 y.1 l d.reads e; inside = d.inside; slots = d.slots; numbers = d.numbers }

-- its id, of the settings' kind
popped-id : {v : Walk} {sh : Shape} {excluded : List ℕ} {settings : Settings} {r : Record} {m : Memory} {st : State} {u : List Id} {y : Id × ℤ} {l : List (Id × ℤ)} {n : Next} → GoesBy v sh excluded settings → Popped sh r m st u y l n
    → id_in (width_of settings.kind) n.id.bytes ≡ y.0
popped-id {settings = settings} {n = n} by k = ap (λ (q : Kinds.Kind). id_in (width_of q) n.id.bytes) (sym by.same_kind) ∙ k.taken.id

popped-ready : {sh : Shape} {r : Record} {m : Memory} {st : State} {u : List Id} {y : Id × ℤ} {l : List (Id × ℤ)} {n : Next} → Popped sh r m st u y l n → Ready sh (waiting_in r n.rest) m (with_queue l st) u 256
unfolding with_queue
popped-ready k = record {
  reads = k.taken.reads;
  failed = k.taken.failed;
  inside = record { few = k.inside.few; has-seen = k.inside.has-seen; has-frontier = k.inside.has-frontier };
  slots = k.slots;
  numbers = k.numbers;
}

-- the line from 2 · cap on, over a pop
pop_kept : {sh : Shape} {r : Record} {names marks : List ℕ} {times : List ℤ} {line line' : List ℕ} {st : State} {n : Option Next} → Reads r (mem names marks times line) sh st → Pops r names times line line' n
    → (k : ℕ) → sh.cap + sh.cap ≤ k → get_or line' k 0 ≡ get_or line k 0
pop_kept g p k h = p.for_line.kept k (omega (arith, h, g.cap))

-- nothing waits
ended : {sh : Shape} {r : Record} {names marks : List ℕ} {times : List ℤ} {line line' : List ℕ} {st : State} {u : List Id} {b : List ℕ}
    → Rests sh r (mem names marks times line) st u → Pops r names times line line' None → (s : Step) → (st.queue ≡ [] → step end [] st ≡ s)
    → Gives sh (mem names marks times line) (mem names marks times line') b b (gave End no_id 0 None None None r) s
unfolding joined
ended {sh} {r} {names} {marks} {times} {line} {line'} {st} {u} {b} d p s c =
    let e = p.told.1 marks sh st d.reads in
    let g : Reads r (mem names marks times line') sh st = rw p.told.0 d.reads in
    subst (Gives sh (mem names marks times line) (mem names marks times line') b b (gave End no_id 0 None None None r)) (c e)
    (gives-step end [] g refl refl refl refl refl (set_down-none b) (pop_kept d.reads p))

gives_on : {sh : Shape} {m m₁ m' : Memory} {b b' : List ℕ} {a : Taken} {s : Step} → ((k : ℕ) → sh.cap + sh.cap ≤ k → get_or m₁.line k 0 ≡ get_or m.line k 0) → Gives sh m₁ m' b b' a s → Gives sh m m' b b' a s
gives_on k g = record { answer = g.answer; down = g.down; reads = g.reads; line_kept = λ j h. g.line_kept j h ∙ k j h }

module _ {excluded : List ℕ} {settings : Settings} {store : List ℕ} {r : Record} {names marks : List ℕ} {times : List ℤ} {line line' : List ℕ} {b : List ℕ} {n : Next} where
  module _ {o : Located} (p : Pops r names times line line' (Some n)) (at : Locates (width_of settings.kind) store (id_in (width_of settings.kind) n.id.bytes) o) where
    -- what the store has of the commit that was popped decides
    from-store : {m' : Memory} {b' : List ℕ} {a : Taken} → ((g : List ℕ) → store_is_ok (width_of settings.kind) store ≡ true → (v : Walk) (sh : Shape) (st : State) (u : List Id) (y : Id × ℤ) (l : List (Id × ℤ)) → GoesBy v sh excluded settings
        → v.world ≡ world_of (width_of settings.kind) store g → Popped sh r (mem names marks times line') st u y l n → InStore v u → parents_room (width_of settings.kind) ≤ length b
        → Gives sh (mem names marks times line') m' b b' a (from_body v (with_queue l st) (id_in (width_of settings.kind) n.id.bytes) y.1 (v.world.store (id_in (width_of settings.kind) n.id.bytes))))
        → Plain (width_of settings.kind) b b' a.answer → TakesStored excluded settings store r (mem names marks times line) m' b b' a
    unfolding take_store
    from-store {m'} {b'} {a} w plain = record { right = λ ok g v sh st u by own d j z. go ok g v sh st u by own d j z st.queue refl; plain = plain }
      where
        go : store_is_ok (width_of settings.kind) store ≡ true → (g : List ℕ) (v : Walk) (sh : Shape) (st : State) (u : List Id) → GoesBy v sh excluded settings → v.world ≡ world_of (width_of settings.kind) store g
            → Rests sh r (mem names marks times line) st u → InStore v u → parents_room (width_of settings.kind) ≤ length b → (q : List (Id × ℤ)) → st.queue ≡ q → Gives sh (mem names marks times line) m' b b' a (take_store v st q)
        go ok g v sh st u by own d j z [] e = absurd (p.told.none marks sh st d.reads e)
        go ok g v sh st u by own d j z (y ∷ l) e =
            let k = popped y l d p e in
            gives_on (pop_kept d.reads p)
            (subst (λ (x : Id). Gives sh (mem names marks times line') m' b b' a (from_body v (with_queue l st) x y.1 (v.world.store x))) (popped-id by k) (w g ok v sh st u y l by own k j z))

    pub stored-body : {m' : Memory} {b' : List ℕ} {a : Taken} {d : List ℕ} (y e : ℕ) → o ≡ Body y e → d ≡ part_of store o
        → TakesBody excluded settings store (header (width_of settings.kind) d) (waiting_in r n.rest) (id_in (width_of settings.kind) n.id.bytes) n.seconds.0 (mem names marks times line') m' b b' a
        → TakesStored excluded settings store r (mem names marks times line) m' b b' a
    stored-body {m'} {b'} {a} {d} y e i is whole =
        let t = subst (λ (c : List ℕ). TakesBody excluded settings store (header (width_of settings.kind) c) (waiting_in r n.rest) (id_in (width_of settings.kind) n.id.bytes) n.seconds.0 (mem names marks times line') m' b b' a)
        (is ∙ ap (part_of store) i) whole in
        from-store
        (λ g ok v sh st u c l by own k j z.
        let there : v.world.store (id_in (width_of settings.kind) n.id.bytes) ≡ Some (header (width_of settings.kind) (part_of store (Body y e))) = ap (λ (q : World). q.store (id_in (width_of settings.kind) n.id.bytes)) own ∙ located_body g y e at i refl ok in
        subst (λ (q : Option Header). Gives sh (mem names marks times line') m' b b' a (from_body v (with_queue l st) (id_in (width_of settings.kind) n.id.bytes) c.1 q)) (sym there)
        (t.right ok g v sh (with_queue l st) u c.1 by own there (popped-ready k) j k.taken.seconds z))
        t.plain

    pub stored-absent : o ≡ Absent → TakesStored excluded settings store r (mem names marks times line) (mem names marks times line') b b (gave (Refused CommitNotFound) no_id 0 None None None (waiting_in r n.rest))
    stored-absent i =
        from-store
        (λ g ok v sh st u c l by own k j z.
        let there : v.world.store (id_in (width_of settings.kind) n.id.bytes) ≡ None = ap (λ (q : World). q.store (id_in (width_of settings.kind) n.id.bytes)) own ∙ located_none g at i ok in
        subst (λ (q : Option Header). Gives sh (mem names marks times line') (mem names marks times line') b b (gave (Refused CommitNotFound) no_id 0 None None None (waiting_in r n.rest)) (from_body v (with_queue l st) (id_in (width_of settings.kind) n.id.bytes) c.1 q))
        (sym there) (absent_gives v (id_in (width_of settings.kind) n.id.bytes) c.1 k.taken.reads))
        (plain-absent (waiting_in r n.rest))

pub stored-none : {excluded : List ℕ} {settings : Settings} {store : List ℕ} {r : Record} {names marks : List ℕ} {times : List ℤ} {line line' : List ℕ} {b : List ℕ} → Pops r names times line line' None
    → TakesStored excluded settings store r (mem names marks times line) (mem names marks times line') b b (gave End no_id 0 None None None r)
unfolding take_store
stored-none {r = r} p = record { right = λ ok g v sh st u by own d j z. ended d p (take_store v st st.queue) (λ e. ap (take_store v st) (sym e)); plain = plain_end r }

-- ---- the next commit

pub next-none : {excluded : List ℕ} {settings : Settings} {graph store : List ℕ} {r : Record} {names marks : List ℕ} {times : List ℤ} {line line' : List ℕ} {b : List ℕ}
    → Pops r names times line line' None → TakesNext excluded settings graph store r (mem names marks times line) (mem names marks times line') b b (gave End no_id 0 None None None r)
unfolding take_next take_queue
next-none p = record { right = λ ok good v sh st u by fixed own d i j z. ended d p (take_next v st) (λ e. ap (take_queue v st) (sym e)) }

-- what the row in use says of the front decides the case: a graph that was dropped says nothing
row_case : (width : ℕ) (v : Walk) (st : State) (graph store : List ℕ) (kept : Bool) (x : Id × ℤ) (l : List (Id × ℤ)) → v.world ≡ world_of width store graph → st.kept ≡ kept → st.queue ≡ x ∷ l
    → take_next v st ≡ take_row v st x l ((world_under width (cache_of width graph kept) graph store).graph x.0)
unfolding take_next take_queue take_row
row_case width v st graph store true x l own k e =
    ap (take_queue v st) e ∙ ap (λ (b : Bool). cond b (take_row v st x l (v.world.graph x.0)) (take_store v st (x ∷ l))) k
    ∙ ap (λ (w : World). take_row v st x l (w.graph x.0)) (own ∙ sym (kept-world width graph store))
row_case width v st graph store false x l own k e =
    ap (take_queue v st) e ∙ ap (λ (b : Bool). cond b (take_row v st x l (v.world.graph x.0)) (take_store v st (x ∷ l))) k
    ∙ ap (take_row v st x l) (sym (dropped-world width graph store x.0))

-- where the row in use is d, by the id that was popped
row_step : (width : ℕ) {sh : Shape} {r : Record} {m : Memory} {st : State} (v : Walk) (graph store : List ℕ) (y : Id × ℤ) (l : List (Id × ℤ)) {z : Id} (d : Row) → Reads r m sh st → v.world ≡ world_of width store graph → st.queue ≡ y ∷ l
    → z ≡ y.0 → (world_under width (cache_of width graph r.kept) graph store).graph z ≡ d → take_next v st ≡ take_row v st y l d
row_step width {sh} {r} {m} {st} v graph store y l {z} d g own e i k =
    row_case width v st graph store r.kept y l own g.kept e ∙ ap (λ (x : Id). take_row v st y l ((world_under width (cache_of width graph r.kept) graph store).graph x)) (sym i) ∙ ap (take_row v st y l) k

-- a row that is in use is the walk's own
row-own : (width : ℕ) (v : Walk) (graph store : List ℕ) (kept : Bool) (x : Id) (d : Row) → v.world ≡ world_of width store graph → kept ≡ true → (world_under width (cache_of width graph kept) graph store).graph x ≡ d → v.world.graph x ≡ d
row-own width v graph store kept x d own k e =
    ap (λ (w : World). w.graph x) (own ∙ sym (kept-world width graph store)) ∙ ap (λ (b : Bool). (world_under width (cache_of width graph b) graph store).graph x) (sym k) ∙ e

-- ---- from the row

module _ {excluded : List ℕ} {settings : Settings} {graph store : List ℕ} {l : Layout} {p : ℕ} {r : Record} {n : Next} {names marks : List ℕ} {times : List ℤ} {line : List ℕ} {b : List ℕ} {w : Option RowRead}
    (read : w ≡ row_read_of (level_of (width_of settings.kind) graph l p) (parents_in (width_of settings.kind) graph l p)) where
  cached-row : {m' : Memory} {b' : List ℕ} {a : Taken} {many : ℕ} {c : Level} → w ≡ Some (row_with many c) → length (id_in (width_of settings.kind) n.id.bytes) ≡ width_of settings.kind
      → TakesRow excluded settings graph l p many c (waiting_in r n.rest) (id_in (width_of settings.kind) n.id.bytes) n.seconds.0 (mem names marks times line) m' b b' a
      → TakesCached excluded settings graph l p store r n (mem names marks times line) m' b b' a
  unfolding take_row
  cached-row {m'} {b'} {a} {many} {c} e wide t = record {
    right = λ ok good own v sh st u y ys by world k kept says i j z.
        let told = row_is (width_of settings.kind) graph l p own read e in
        let ps : List (Id × ℤ) = told.parents in
        subst (λ (d : Row). Gives sh (mem names marks times line) m' b b' a (take_row v st y ys d)) (sym told.is)
        (subst (λ (x : Id). Gives sh (mem names marks times line) m' b b' a (step_from_row v (with_queue ys st) x y.1 ps c.0)) (popped-id by k)
        (t.right good own ps told.seconds told.is told.count v sh (with_queue ys st) u y.1 by (popped-ready k)
        (λ q h. i.inside y.0 q ps c.0 told.seconds (says ∙ told.is) h) k.taken.seconds z));
    plain = t.plain (row-counted (width_of settings.kind) graph l p read e) wide;
  }

  cached-corrupt : {line' : List ℕ} {m' : Memory} {b' : List ℕ} {a : Taken} {r' : Record} → w ≡ None → Drops (waiting_in r n.rest) times line line' n.slot r'
      → TakesStored excluded settings store r' (mem names marks times line') m' b b' a → TakesCached excluded settings graph l p store r n (mem names marks times line) m' b b' a
  unfolding take_row dropped with_queue
  cached-corrupt {line'} {m'} {b'} {a} {r'} e x t = record {
    right = λ ok good own v sh st u y ys by world k kept says i j z.
        let held : r.kept ≡ true = sym k.taken.reads.kept ∙ kept in
        let small : n.rest.admitted + 2 < 4294967296 = omega (arith, k.numbers, k.taken.reads.admitted) in
        let g = x.reads names marks sh (with_queue ys st) y.0 y.1 k.taken.reads k.taken.failed held k.taken.slot k.taken.entry small in
        let shape : sh ≡ shape_for v.settings sh.cap sh.fixed = by.shape ∙ ap (λ (s : Settings). shape_for s sh.cap sh.fixed) (sym by.same-settings) in
        let same : back_to sh y ys ≡ back v y ys = ap (λ (s : Shape). back_to s y ys) shape ∙ sym (back-shape v sh.cap sh.fixed y ys) in
        let now : State = dropped (back v y ys) st in
        let after : Reads r' (mem names marks times line') sh now = subst (λ (q : List (Id × ℤ)). Reads r' (mem names marks times line') sh (dropped q st)) same g in
        let rests : Rests sh r' (mem names marks times line') now u =
        record { reads = after; inside = record { few = k.inside.few; has-seen = k.inside.has-seen; has-frontier = k.inside.has-frontier }; slots = k.slots; numbers = k.numbers } in
        subst (λ (d : Row). Gives sh (mem names marks times line) m' b b' a (take_row v st y ys d)) (sym (row-torn (width_of settings.kind) graph l p own read e))
        (gives_on (λ c h. x.for_line.kept c (omega (arith, h, k.taken.reads.cap))) (t.right ok graph v sh now u by world rests j z));
    plain = t.plain;
  }

-- the row's parents were visited
visited_in : {w w' : Waiting} {k k' : ℕ} {c c' : Level} → Some (visited w k c) ≡ Some (visited w' k' c') → (w ≡ w') × (k ≡ k') × (c ≡ c')
visited_in e = let q = some_in e in (ap (λ (x : RowVisited). x.after) q, ap (λ (x : RowVisited). x.parents) q, ap (λ (x : RowVisited). x.level) q)

module _ {excluded : List ℕ} {settings : Settings} {graph store : List ℕ} {l : Layout} {p : ℕ} {r : Record} {n : Next} {names marks : List ℕ} {times : List ℤ} {line : List ℕ} {names₁ marks₁ : List ℕ} {times₁ : List ℤ}
    {line₁ v v₁ b b₁ : List ℕ} {x : Option RowVisited}
    (seen : VisitsCached excluded settings graph l p r n.rest (mem names marks times line) (mem names₁ marks₁ times₁ line₁) v v₁ b b₁ x) where
  pub cached-visited : {a : Taken} {w' : Waiting} {k : ℕ} {c : Level} → length (id_in (width_of settings.kind) n.id.bytes) ≡ width_of settings.kind → x ≡ Some (visited w' k c)
      → a ≡ gave Commit (padded (id_in (width_of settings.kind) n.id.bytes)) k (level_given (level_shown c.0)) (time_given w'.queue.timed n.seconds) None (waiting_in r w')
      → TakesCached excluded settings graph l p store r n (mem names marks times line) (mem names₁ marks₁ times₁ line₁) b b₁ a
  cached-visited {a} {w'} {k} {c} wide e i = go (row_read_of (level_of (width_of settings.kind) graph l p) (parents_in (width_of settings.kind) graph l p)) refl seen.judged
    where
      go : (w : Option RowRead) → w ≡ row_read_of (level_of (width_of settings.kind) graph l p) (parents_in (width_of settings.kind) graph l p)
          → VisitedBy w excluded settings graph l p r n.rest (mem names marks times line) (mem names₁ marks₁ times₁ line₁) v v₁ b b₁ x
          → TakesCached excluded settings graph l p store r n (mem names marks times line) (mem names₁ marks₁ times₁ line₁) b b₁ a
      go None read d = no-some (sym d.0 ∙ e)
      go (Some q) read d =
          let s = visited_in (sym d.2 ∙ e) in
          let w : VisitsRow excluded settings graph l p k (waiting_in r n.rest) (mem names marks times line) (mem names₁ marks₁ times₁ line₁) b b₁ (waiting_in r w') =
          subst (λ (z : Waiting). VisitsRow excluded settings graph l p k (waiting_in r n.rest) (mem names marks times line) (mem names₁ marks₁ times₁ line₁) b b₁ (waiting_in r z)) s.0
          (subst (λ (z : ℕ). VisitsRow excluded settings graph l p z (waiting_in r n.rest) (mem names marks times line) (mem names₁ marks₁ times₁ line₁) b b₁ (waiting_in r d.1)) s.1 d.4) in
          subst (λ (q : Taken). TakesCached excluded settings graph l p store r n (mem names marks times line) (mem names₁ marks₁ times₁ line₁) b b₁ q) (sym i)
          (cached-row read (ap (λ (z : Level). Some (row_with q.parents z)) s.2) wide (takes_row (subst (λ (z : ℕ). Follows settings q.parents z) s.1 d.3) w))

  -- its list is corrupt: nothing was changed, and the call goes on from the store
  pub cached-torn : {line' : List ℕ} {m'' : Memory} {b'' : List ℕ} {a : Taken} {r' : Record} → x ≡ None → Drops (waiting_in r n.rest) times₁ line₁ line' n.slot r'
      → TakesStored excluded settings store r' (mem names₁ marks₁ times₁ line') m'' b₁ b'' a → TakesCached excluded settings graph l p store r n (mem names marks times line) m'' b b'' a
  cached-torn {line'} {m''} {b''} {a} {r'} e y t = go (row_read_of (level_of (width_of settings.kind) graph l p) (parents_in (width_of settings.kind) graph l p)) refl seen.judged
    where
      go : (w : Option RowRead) → w ≡ row_read_of (level_of (width_of settings.kind) graph l p) (parents_in (width_of settings.kind) graph l p)
          → VisitedBy w excluded settings graph l p r n.rest (mem names marks times line) (mem names₁ marks₁ times₁ line₁) v v₁ b b₁ x
          → TakesCached excluded settings graph l p store r n (mem names marks times line) m'' b b'' a
      go None read d =
          subst (λ (c : List ℕ). TakesCached excluded settings graph l p store r n (mem names marks times line) m'' c b'' a) d.3
          (subst (λ (c : Memory). TakesCached excluded settings graph l p store r n c m'' b₁ b'' a) d.1 (cached-corrupt read refl y t))
      go (Some q) read d = no-some (sym e ∙ d.2)

-- ---- from what `find` found

-- a row is found in a graph that is kept
graph-kept : (graph : List ℕ) (l l' : Layout) (kept : Bool) → cache_with graph l kept ≡ Some l' → kept ≡ true
unfolding cache_with
graph-kept graph l l' true e = refl
graph-kept graph l l' false e = let z : ◌≡◌ {A = ℕ} 0 1 = cc in absurd (omega arith)

module _ {excluded : List ℕ} {settings : Settings} {graph store : List ℕ} {r : Record} {names marks : List ℕ} {times : List ℤ} {line line' : List ℕ} {b : List ℕ} {n : Next} {e : Either}
    (p : Pops r names times line line' (Some n)) (found : FindsCommit (width_of settings.kind) (cache_with graph r.fixed.layout r.kept) graph store (id_in (width_of settings.kind) n.id.bytes) e) where
  -- the popped commit, whose row in use is d, is taken as the walk takes it
  found-next : {m' : Memory} {b' : List ℕ} {a : Taken} → ((v : Walk) (sh : Shape) (st : State) (u : List Id) (y : Id × ℤ) (l : List (Id × ℤ)) → store_is_ok (width_of settings.kind) store ≡ true → GoodCache (width_of settings.kind) (cache_of (width_of settings.kind) graph r.kept) graph
      → r.fixed.layout ≡ layout_of (width_of settings.kind) graph → e ≡ found_in (width_of settings.kind) (cache_of (width_of settings.kind) graph r.kept) graph store (id_in (width_of settings.kind) n.id.bytes) → GoesBy v sh excluded settings → v.world ≡ world_of (width_of settings.kind) store graph → st.kept ≡ r.kept
      → Popped sh r (mem names marks times line') st u y l n → InRows v u → InStore v u → parents_room (width_of settings.kind) ≤ length b
      → (d : Row) × ((world_under (width_of settings.kind) (cache_of (width_of settings.kind) graph r.kept) graph store).graph (id_in (width_of settings.kind) n.id.bytes) ≡ d) × Gives sh (mem names marks times line') m' b b' a (take_row v st y l d))
      → TakesNext excluded settings graph store r (mem names marks times line) m' b b' a
  found-next {m'} {b'} {a} w = record { right = λ ok good v sh st u by fixed own d i j z. go ok good v sh st u by fixed own d i j z st.queue refl }
    where
      go : store_is_ok (width_of settings.kind) store ≡ true → (is_empty graph || graph_ok (width_of settings.kind) graph) ≡ true → (v : Walk) (sh : Shape) (st : State) (u : List Id) → GoesBy v sh excluded settings → sh.fixed ≡ fixed_of settings.kind graph
          → v.world ≡ world_of (width_of settings.kind) store graph → Rests sh r (mem names marks times line) st u → InRows v u → InStore v u → parents_room (width_of settings.kind) ≤ length b → (q : List (Id × ℤ)) → st.queue ≡ q
          → Gives sh (mem names marks times line) m' b b' a (take_next v st)
      go ok good v sh st u by fixed own d i j z [] o = absurd (p.told.none marks sh st d.reads o)
      go ok good v sh st u by fixed own d i j z (y ∷ l) o =
          let k = popped y l d p o in
          let lay : r.fixed.layout ≡ layout_of (width_of settings.kind) graph = ap (λ (q : Fixed). q.layout) (d.reads.fixed ∙ fixed) in
          let used : cache_with graph r.fixed.layout r.kept ≡ cache_of (width_of settings.kind) graph r.kept = ap (λ (q : Layout). cache_with graph q r.kept) lay in
          let right = subst (λ (q : Option Layout). GoodCache (width_of settings.kind) q graph) (sym used) (good-cache (width_of settings.kind) graph r.kept good) in
          let told : e ≡ found_in (width_of settings.kind) (cache_of (width_of settings.kind) graph r.kept) graph store (id_in (width_of settings.kind) n.id.bytes) =
          found.good ok right ∙ ap (λ (q : Option Layout). found_in (width_of settings.kind) q graph store (id_in (width_of settings.kind) n.id.bytes)) used in
          let s = w v sh st u y l ok (good-cache (width_of settings.kind) graph r.kept good) lay told by own d.reads.kept k i j z in
          subst (Gives sh (mem names marks times line) m' b b' a) (sym (row_step (width_of settings.kind) v graph store y l s.0 d.reads own o (popped-id by k) s.1))
          (gives_on (pop_kept d.reads p) s.2)

  pub next-cached : {m' : Memory} {b' : List ℕ} {a : Taken} (at s z : ℕ) → e ≡ CachedCommit at s z → TakesCached excluded settings graph r.fixed.layout at store r n (mem names marks times line') m' b b' a
      → TakesNext excluded settings graph store r (mem names marks times line) m' b b' a
  next-cached at s z q t = found-next (λ v sh st u y l ok good lay told by own same k i j h.
      let file = found-row (width_of settings.kind) (cache_of (width_of settings.kind) graph r.kept) graph store (id_in (width_of settings.kind) n.id.bytes) at s z good (sym told ∙ q) in
      let used = found.listed at s z q in
      let kept : r.kept ≡ true = graph-kept graph r.fixed.layout used.0 r.kept used.1 in
      let says : v.world.graph y.0 ≡ row_at (width_of settings.kind) graph at =
      ap v.world.graph (sym (popped-id by k)) ∙ row-own (width_of settings.kind) v graph store r.kept (id_in (width_of settings.kind) n.id.bytes) (row_at (width_of settings.kind) graph at) own kept file.says in
      (row_at (width_of settings.kind) graph at, file.says, t.right ok file.file lay v sh st u y l by own k (same ∙ kept) says i j h))

  pub next-body : {m' : Memory} {b' : List ℕ} {a : Taken} {d : List ℕ} (s z : ℕ) → e ≡ CommitRefIter s z → d ≡ part_in_store (CommitRefIter s z) store
      → TakesBody excluded settings store (header (width_of settings.kind) d) (waiting_in r n.rest) (id_in (width_of settings.kind) n.id.bytes) n.seconds.0 (mem names marks times line') m' b b' a
      → TakesNext excluded settings graph store r (mem names marks times line) m' b b' a
  unfolding take_row take_store
  next-body {m'} {b'} {a} {d} s z q is whole =
      let t = subst (λ (c : List ℕ). TakesBody excluded settings store (header (width_of settings.kind) c) (waiting_in r n.rest) (id_in (width_of settings.kind) n.id.bytes) n.seconds.0 (mem names marks times line') m' b b' a)
      (is ∙ found-slice found s z q) whole in
      found-next (λ v sh st u y l ok good lay told by own same k i j h.
      let x : Id = id_in (width_of settings.kind) n.id.bytes in
      let c = found-body (width_of settings.kind) (cache_of (width_of settings.kind) graph r.kept) graph store x s z ok (sym told ∙ q) in
      let there : v.world.store x ≡ Some (header (width_of settings.kind) (part_of store (Body s z))) = ap (λ (w : World). w.store x) own ∙ sym (same_store (width_of settings.kind) (cache_of (width_of settings.kind) graph r.kept) graph store x) ∙ c.1 in (
        no_row,
        c.0,
        subst (λ (x : Id). Gives sh (mem names marks times line') m' b b' a (from_body v (with_queue l st) x y.1 (v.world.store x))) (popped-id by k)
            (subst (λ (w : Option Header). Gives sh (mem names marks times line') m' b b' a (from_body v (with_queue l st) x y.1 w)) (sym there)
            (t.right ok graph v sh (with_queue l st) u y.1 by own there (popped-ready k) j k.taken.seconds h)),
      ))

  pub next-absent : e ≡ Either-as-Absent
      → TakesNext excluded settings graph store r (mem names marks times line) (mem names marks times line') b b (gave (Refused CommitNotFound) no_id 0 None None None (waiting_in r n.rest))
  unfolding take_row take_store
  next-absent q = found-next (λ v sh st u y l ok good lay told by own same k i j h.
      let x : Id = id_in (width_of settings.kind) n.id.bytes in
      let a : Taken = gave (Refused CommitNotFound) no_id 0 None None None (waiting_in r n.rest) in
      let c = found-absent (width_of settings.kind) (cache_of (width_of settings.kind) graph r.kept) graph store x (sym told ∙ q) in
      let there : v.world.store x ≡ None = ap (λ (w : World). w.store x) own ∙ sym (same_store (width_of settings.kind) (cache_of (width_of settings.kind) graph r.kept) graph store x) ∙ c.1 in (
        no_row,
        c.0,
        subst (λ (x : Id). Gives sh (mem names marks times line') (mem names marks times line') b b a (from_body v (with_queue l st) x y.1 (v.world.store x))) (popped-id by k)
            (subst (λ (w : Option Header). Gives sh (mem names marks times line') (mem names marks times line') b b a (from_body v (with_queue l st) x y.1 w)) (sym there) (absent_gives v x y.1 k.taken.reads)),
      ))
