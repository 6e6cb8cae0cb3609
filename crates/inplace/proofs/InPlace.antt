-- A call in place is the walk's own next call: the queue's first slot leaves, its row stands at the position that is looked at, so that `find` gives it, and the
-- row's parents are visited as those of any row. Assumes nothing.
use Rattle.std.specs.Prelude.{None, Option, Some}
use mathlib.Core.Path.{◌≡◌, refl, sym, ap, ◌∙◌, subst}
use Prim.Native.Nat.{ℕ, ◌<◌}
use mathlib.Core.Bool.{Bool, true, false, cond, not}
use mathlib.Core.List.{List, [], ◌∷◌}
use native.Mathlib.Omega.{arith}
use lib.ListN.{length}
use lib.Dec.{eqb}
use lib.IntN.{ℤ}
use Rattle.hash.specs.Bytes.{Id, set_down, width_of}
use Rattle.hash.proofs.Widths.{width_least, width-most}
use Rattle.hashtable.specs.Table.{id_of}
use Rattle.object.specs.Ids.{padded, id_in}
use Rattle.object.proofs.IdBytes.{id_in_lem}
use Rattle.date.specs.declared.Seconds.{Seconds}
use Rattle.commitgraph.specs.Graph.{row_start, row_end, id_in as id_at}
use Rattle.commitgraph.specs.declared.Layout.{Layout}
use Rattle.commitgraph.specs.declared.Level.{Level}
use Rattle.commitgraph.proofs.RowsFind.{looks_at}
use Rattle.commit.specs.Find.{in_graph, FindsCommit}
use Rattle.commit.proofs.Found.{by_row}
use Rattle.reading.specs.Files.{cache_with}
use Rattle.walk.specs.declared.Settings.{Settings}
use Rattle.walk.specs.declared.Outcome.TheVariants.{Commit}
use Rattle.walk.specs.State.{is_empty}
use Rattle.walk.specs.Next.{level_shown}
use Rattle.walk.specs.Given.{level_given}
use Rattle.revwalk.specs.declared.queue.Popped.{Popped}
use Rattle.revwalk.specs.Queue.{place_of}
use Rattle.state.specs.declared.Record.{Record}
use Rattle.state.specs.declared.Waiting.{Waiting}
use Rattle.state.specs.declared.Next.{Next}
use Rattle.state.specs.Shapes.{waiting_in}
use Rattle.state.specs.Steps.{mem}
use Rattle.state.proofs.Popping.{pops-some}
use Rattle.rowvisit.specs.Row.{visited, VisitsCached}
use Rattle.links.specs.Leaving.{Leaves, without}
use Rattle.visit.specs.declared.next.Taken.{Taken}
use Rattle.visit.specs.Taking.{gave, time_given, TakesCached, TakesNext}
use Rattle.visit.proofs.Takings.{cached-visited, next-cached}
use Rattle.traverse.specs.declared.Out.{Out}
use Rattle.traverse.specs.Contract.{Lent, lengths_of, NextSays}
use Rattle.traverse.specs.Next.{files_lent}
use Rattle.traverse.specs.Open.{lent_of}
use Rattle.traverse.proofs.NextSaid.{taken-goes, goes-says}
use Rattle.wire.specs.Words.{record_of, words_of, PutsRecord, PutsWaiting}
use Rattle.wire.specs.Numbers.{commit_given, PutsAnswer}
use Rattle.inplace.specs.InPlace.{StandsAt, answer_of, TakesRow, CanGo, not_made_number, GoesInPlace}

-- a file that is used
used : (g : List ℕ) (l : Layout) (kept : Bool) → kept ≡ true → 0 < length g → Some l ≡ cache_with g l kept
unfolding cache_with is_empty
used [] l kept k h = absurd (omega arith)
used (x ∷ g) l kept k h = ap (λ (b : Bool). let u : Option Layout = Some l in cond b u None) (sym k)

-- the id in a slot
abbrev pub id_at_slot : Record → List ℕ → ℕ → Id
id_at_slot r names slot = id_of (width_of r.fixed.kind) names slot

-- the commit that leaves the queue, as a pop by the record gives it
abbrev pub leaving : Record → List ℕ → Popped → Seconds → Next
leaving r names q t = record { slot = q.slot; id = record { bytes = padded (id_at_slot r names q.slot) }; seconds = t; rest = without r q }

-- what is handed out, with k parents and the level c, where w wait then
abbrev handed_out : Record → List ℕ → Popped → ℕ → Level → Seconds → Waiting → Taken
handed_out r names q k c t w = gave Commit (padded (id_at_slot r names q.slot)) k (level_given (level_shown c.0)) (time_given w.queue.timed t) None (waiting_in r w)

-- the same as a call gives it back
abbrev pub given_back : Record → List ℕ → Popped → ℕ → Level → Seconds → Waiting → Out
given_back r names q k c t w = record { answer = (handed_out r names q k c t w).answer; «record» = waiting_in r w }

module _ (store : List ℕ) {excluded : List ℕ} {r : Record} {graph : List ℕ} {settings : Settings} {names marks levels : List ℕ} {times : List ℤ} {line line₁ parents : List ℕ} {names' marks' levels' : List ℕ} {times' : List ℤ} {line' parents' : List ℕ} {q : Popped} {near k : ℕ} {w : Waiting} {c : Level} {t : Seconds}
    (o : Leaves r times line line₁ q t) (h : StandsAt (width_of settings.kind) graph r.fixed.layout near (id_at_slot r names q.slot)) (kept : r.kept ≡ true) (file : 0 < length graph)
    (seen : VisitsCached excluded settings graph r.fixed.layout near r (without r q) (mem names marks times line₁) (mem names' marks' times' line') levels levels' parents parents' (Some (visited w k c))) where
  own : id_in (width_of settings.kind) (padded (id_at_slot r names q.slot)) ≡ id_at_slot r names q.slot
  own = id_in_lem (width_of settings.kind) (id_at_slot r names q.slot) h.wide (width-most settings.kind)

  finds : FindsCommit (width_of settings.kind) (cache_with graph r.fixed.layout r.kept) graph store (id_in (width_of settings.kind) (padded (id_at_slot r names q.slot))) (in_graph (width_of settings.kind) graph r.fixed.layout near)
  finds =
      let row = by_row store near (looks_at (width_of settings.kind) graph r.fixed.layout (id_at_slot r names q.slot) near (omega (arith, width_least settings.kind)) h.wide h.low h.same) refl in
      subst (λ (y : Option Layout). FindsCommit (width_of settings.kind) y graph store (id_in (width_of settings.kind) (padded (id_at_slot r names q.slot))) (in_graph (width_of settings.kind) graph r.fixed.layout near)) (used graph r.fixed.layout r.kept kept file)
      (subst (λ (y : Id). FindsCommit (width_of settings.kind) (Some r.fixed.layout) graph store y (in_graph (width_of settings.kind) graph r.fixed.layout near)) (sym own) row)

  cached : TakesCached excluded settings graph r.fixed.layout near store r (leaving r names q t) (mem names marks times line₁) (mem names' marks' times' line') parents parents' (handed_out r names q k c t w)
  cached =
      cached-visited {n = leaving r names q t} seen (ap length own ∙ h.wide) refl
      (ap (λ (y : Id). gave Commit (padded y) k (level_given (level_shown c.0)) (time_given w.queue.timed t) None (waiting_in r w)) (sym own))

  next : TakesNext excluded settings graph store r (mem names marks times line) (mem names' marks' times' line') parents parents' (handed_out r names q k c t w)
  next =
      next-cached {n = leaving r names q t} (pops-some o.pops refl o.seconds) finds near (row_start (width_of settings.kind) graph r.fixed.layout near) (row_end (width_of settings.kind) graph r.fixed.layout near) refl cached

  pub says : {words : List ℕ} (hidden : List ℕ) → CanGo r words settings (lengths_of (lent_of names marks levels times line parents)) → length parents' ≡ length parents
      → lengths_of (lent_of names' marks' levels' times' line' parents') ≡ lengths_of (lent_of names marks levels times line parents)
      → NextSays (files_lent store graph hidden excluded settings) r (lent_of names marks levels times line parents) (given_back r names q k c t w) (lent_of names' marks' levels' times' line' parents')
  says hidden d l e =
      goes-says {f = files_lent store graph hidden excluded settings} d.whole d.is_whole d.painted (taken-goes (lent_of names' marks' levels' times' line' parents') next cached.plain l (record { answer = refl; after = refl })) e

-- a list with nothing in it
pub empty : (l : List ℕ) → length l ≡ 0 → l ≡ []
empty [] e = refl
empty (x ∷ l) e = absurd (omega (arith, e))

-- ---- the call

-- a call that is not made alters nothing
pub not_made : (store graph excluded : List ℕ) (settings : Settings) (m : Lent) (words id numbers : List ℕ) (seconds : List ℤ) → GoesInPlace store graph excluded settings m m words words id id numbers numbers seconds seconds not_made_number
not_made store graph excluded settings m words id numbers seconds = record { still = λ e. (refl, refl, refl, refl, refl); made = λ n. absurd (n refl) }

-- the answer of the row's own id, level and seconds
pub put_as : (r : Record) (s : Settings) (g : List ℕ) (p k : ℕ) (c : Level) (t : Seconds) (w : Waiting) {y : Id} {v : Option Level} {u : Option Seconds} {id id' numbers numbers' : List ℕ} {seconds seconds' : List ℤ} → y ≡ id_at (width_of s.kind) g r.fixed.layout p
    → v ≡ level_given (level_shown c.0) → u ≡ time_given w.queue.timed t → PutsAnswer (width_of s.kind) (commit_given y k v u None w.admitted r.struck w.queue.count) id id' numbers numbers' seconds seconds' 0
    → PutsAnswer (width_of s.kind) (answer_of r (id_at (width_of s.kind) g r.fixed.layout p) k c t w) id id' numbers numbers' seconds seconds' 0
put_as r s g p k c t w i e f z = rw (i, e, f) at z

-- what leaves is what stands first
leaves-first : (r : Record) (graph names : List ℕ) (settings : Settings) {times : List ℤ} {line line₁ : List ℕ} {near slot : ℕ} {q : Popped} {t : Seconds} → slot ≡ place_of r.queue line 0
    → StandsAt (width_of settings.kind) graph r.fixed.layout near (id_at_slot r names slot) → Leaves r times line line₁ q t → StandsAt (width_of settings.kind) graph r.fixed.layout near (id_at_slot r names q.slot)
leaves-first r graph names settings {near = near} f h o = subst (λ (y : ℕ). StandsAt (width_of settings.kind) graph r.fixed.layout near (id_at_slot r names y)) (f ∙ sym (o.pops.told.first)) h

-- the record, by the words that wait alone; of a result that is not that of a closed record
pub kept-words : {r : Record} {words words' : List ℕ} {w : Waiting} (n : ℕ) → eqb n 12 ≡ false → set_down words 0 (words_of (record_of words)) ≡ words → PutsWaiting w words words' → r ≡ record_of words → PutsRecord n (waiting_in r w) words words'
kept-words {r} {words} {w = w} n shut plain z e = record {
  is = z.is plain ∙ ap (λ (y : Record). set_down words 0 (words_of (waiting_in y w))) (sym e) ∙ sym (rw shut);
  back = λ k l. z.back l ∙ ap (λ (y : Record). waiting_in y w) (sym e);
}

module _ {r : Record} {graph words excluded : List ℕ} {settings : Settings} {names marks levels : List ℕ} {times : List ℤ} {line parents names' marks' levels' : List ℕ} {times' : List ℤ} {line' parents' words' id id' numbers numbers' : List ℕ} {seconds seconds' : List ℤ} {near : ℕ} {a : Bool}
    (t : TakesRow excluded settings graph near r (lent_of names marks levels times line parents) (lent_of names' marks' levels' times' line' parents') words words' id id' numbers numbers' seconds seconds' a) where
  pub first-left : (store : List ℕ) → a ≡ false → GoesInPlace store graph excluded settings (lent_of names marks levels times line parents) (lent_of names' marks' levels' times' line' parents') words words' id id' numbers numbers' seconds seconds' not_made_number
  first-left store e = record { still = λ k. t.still e; made = λ n. absurd (n refl) }

  pub first_taken : {slot : ℕ} (store : List ℕ) → a ≡ true → 0 < length graph → CanGo r words settings (lengths_of (lent_of names marks levels times line parents)) → slot ≡ place_of r.queue line 0
      → StandsAt (width_of settings.kind) graph r.fixed.layout near (id_at_slot r names slot) → r ≡ record_of words
      → length parents' ≡ length parents → lengths_of (lent_of names' marks' levels' times' line' parents') ≡ lengths_of (lent_of names marks levels times line parents)
      → GoesInPlace store graph excluded settings (lent_of names marks levels times line parents) (lent_of names' marks' levels' times' line' parents') words words' id id' numbers numbers' seconds seconds' 0
  first_taken store a b d f h e n l = record {
    still = λ k. absurd (omega (arith, k));
    made = λ k hidden.
        let x = t.taken a in
        let q = x.4.1 in
        let o = x.4.2 in
        let g = leaves-first r graph names settings f h o in
        let back = given_back r names q x.1 x.2 x.3 x.0 in
        (back, subst (λ (y : Record). NextSays (files_lent store graph hidden excluded settings) y (lent_of names marks levels times line parents) back (lent_of names' marks' levels' times' line' parents')) e (says store o g d.kept b x.4.3 hidden d n l), subst (λ (y : Id). PutsAnswer (width_of settings.kind) (answer_of r y x.1 x.2 x.3 x.0) id id' numbers numbers' seconds seconds' 0) g.same x.5, kept-words 0 refl d.plain x.6 e);
  }
