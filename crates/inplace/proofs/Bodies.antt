-- A call in place from the store is the walk's own next call: with no commit-graph file `find` gives what the store has, and the body's parents are visited as those of
-- any body. Assumes nothing.
use Rattle.std.specs.Prelude.{None, Option}
use Rattle.date.specs.declared.Seconds.{Seconds}
use mathlib.Core.Path.{◌≡◌, refl, sym, ap, ◌∙◌, subst}
use Prim.Native.Nat.{ℕ}
use mathlib.Core.Bool.{Bool, true, false, not}
use mathlib.Core.List.{List, []}
use native.Mathlib.Omega.{arith}
use lib.ListN.{length}
use lib.Dec.{eqb}
use lib.IntN.{ℤ}
use Rattle.hash.specs.Bytes.{Id, width_of}
use Rattle.object.specs.Header.{Header, header}
use Rattle.object.specs.Ids.{padded, id_in}
use Rattle.object.proofs.IdBytes.{padded_length}
use Rattle.odb.specs.Lookup.{Locates, part_of}
use Rattle.odb.specs.declared.Located.{Located}
use Rattle.odb.specs.declared.Located.TheVariants.{Body}
use Rattle.commitgraph.specs.declared.Layout.{Layout}
use Rattle.commit.specs.Find.{FindsCommit, in_store}
use Rattle.commit.specs.declared.Either.TheVariants.{CommitRefIter}
use Rattle.commit.proofs.Found.{without-graph}
use Rattle.commit.proofs.Parts.{found-slice}
use Rattle.reading.specs.Files.{cache_with}
use Rattle.reading.specs.declared.body.BodyEnd.{BodyEnd}
use Rattle.reading.specs.declared.body.BodyEnd.TheVariants.{Whole, Unreadable, Crowded}
use Rattle.reading.proofs.ByValue.{id_in-kind}
use Rattle.walk.specs.declared.Settings.{Settings}
use Rattle.walk.specs.State.{is_empty}
use Rattle.walk.specs.Given.{outcome_number}
use Rattle.revwalk.specs.Queue.{place_of}
use Rattle.state.specs.declared.Record.{Record}
use Rattle.state.specs.Shapes.{waiting_in}
use Rattle.state.specs.Steps.{mem}
use Rattle.state.proofs.Popping.{pops-some}
use Rattle.bodyvisit.specs.declared.body.BodyVisited.{BodyVisited}
use Rattle.links.specs.Leaving.{without}
use Rattle.visit.specs.declared.next.Taken.{Taken}
use Rattle.visit.specs.Taking.{end_given, time_given, EndsBody, TakesNext, TakesBody as TakesFrom}
use Rattle.visit.proofs.Takings.{takes_body, next-body}
use Rattle.traverse.specs.declared.Out.{Out}
use Rattle.traverse.specs.Contract.{lengths_of, NextSays}
use Rattle.traverse.specs.Next.{files_lent}
use Rattle.traverse.specs.Open.{lent_of}
use Rattle.traverse.proofs.NextSaid.{taken-goes, goes-says}
use Rattle.wire.specs.Words.{record_of, PutsRecord}
use Rattle.wire.specs.Numbers.{PutsAnswer}
use Rattle.inplace.specs.InPlace.{CanGo, not_made_number, GoesInPlace}
use Rattle.inplace.specs.Stored.{PutsEnd, Took, TakesBody}
use Rattle.inplace.proofs.InPlace.{id_at_slot, leaving, kept-words}

-- no file is used where none is lent
unused : (l : Layout) (kept : Bool) → None ≡ cache_with [] l kept
unfolding cache_with is_empty
unused l true = refl
unused l false = refl

-- the number of an answer after a body: it is no closed record's, and not that of a call that was not made
ended_open : (e : BodyEnd) (x : Id) (n : ℕ) (t : Option Seconds) (z : Option ℤ) (r : Record) → eqb (outcome_number (end_given e x n t z r).answer.outcome) 12 ≡ false
ended_open Whole x n t z r = refl
ended_open Unreadable x n t z r = refl
ended_open Crowded x n t z r = refl

ended-made : (e : BodyEnd) (x : Id) (n : ℕ) (t : Option Seconds) (z : Option ℤ) (r : Record) → outcome_number (end_given e x n t z r).answer.outcome ≡ not_made_number → ⊥
ended-made Whole x n t z r e = omega (arith, e)
ended-made Unreadable x n t z r e = omega (arith, e)
ended-made Crowded x n t z r e = omega (arith, e)

-- and the record after it
ended-after : (e : BodyEnd) (x : Id) (n : ℕ) (t : Option Seconds) (z : Option ℤ) (r : Record) → (end_given e x n t z r).after ≡ r
ended-after Whole x n t z r = refl
ended-after Unreadable x n t z r = refl
ended-after Crowded x n t z r = refl

module _ {excluded store : List ℕ} {r : Record} {settings : Settings} {names marks levels : List ℕ} {times : List ℤ} {line parents names' marks' levels' : List ℕ} {times' : List ℤ} {line' parents' words words' id id' numbers numbers' : List ℕ} {seconds seconds' : List ℤ} {n slot s z : ℕ} {x d : List ℕ} {at : Located}
    (t : Took excluded settings store d r x (lent_of names marks levels times line parents) (lent_of names' marks' levels' times' line' parents') words words' id id' numbers numbers' seconds seconds' n)
    (f : slot ≡ place_of r.queue line 0) (i : x ≡ padded (id_at_slot r names slot)) (o : Locates (width_of settings.kind) store (id_in (width_of settings.kind) x) at) (e : at ≡ Body s z) (b : d ≡ part_of store at) where
  -- what leaves is what stands first
  own : x ≡ padded (id_at_slot r names t.popped.slot)
  own = i ∙ ap (λ (k : ℕ). padded (id_at_slot r names k)) (f ∙ sym (t.leaves.pops.told.first))

  finds : FindsCommit (width_of settings.kind) (cache_with [] r.fixed.layout r.kept) [] store (id_in (width_of settings.kind) (padded (id_at_slot r names t.popped.slot))) (CommitRefIter s z)
  finds =
      subst (λ (y : Option Layout). FindsCommit (width_of settings.kind) y [] store (id_in (width_of settings.kind) (padded (id_at_slot r names t.popped.slot))) (CommitRefIter s z)) (unused r.fixed.layout r.kept)
      (subst (λ (y : List ℕ). FindsCommit (width_of settings.kind) None [] store (id_in (width_of settings.kind) y) (CommitRefIter s z)) own
      (subst (λ (y : Located). FindsCommit (width_of settings.kind) None [] store (id_in (width_of settings.kind) x) (in_store y)) e (without-graph [] store at o)))

  ends : EndsBody r t.seen (header (width_of settings.kind) d) (id_in (width_of settings.kind) (padded (id_at_slot r names t.popped.slot))) (time_given t.popped.queue.timed t.time) t.answer.taken
  ends =
      subst (λ (y : List ℕ). EndsBody r t.seen (header (width_of settings.kind) d) (id_in (width_of settings.kind) y) (time_given t.popped.queue.timed t.time) t.answer.taken) own
      (subst (λ (y : Bool). EndsBody r t.seen (header (width_of settings.kind) d) (id_in (width_of settings.kind) x) (time_given y t.time) t.answer.taken) (sym t.leaves.pops.told.same.timed) t.answer.ends)

  body : TakesFrom excluded settings store (header (width_of settings.kind) d) (waiting_in r (without r t.popped)) (id_in (width_of settings.kind) (padded (id_at_slot r names t.popped.slot))) t.time.0 (mem names marks times t.line₁) (mem names' marks' times' line') parents parents' t.answer.taken
  body = takes_body d t.visits ends (id_in-kind settings.kind (padded (id_at_slot r names t.popped.slot)) (padded_length (id_at_slot r names t.popped.slot)))

  next : TakesNext excluded settings [] store r (mem names marks times line) (mem names' marks' times' line') parents parents' t.answer.taken
  next =
      next-body {n = leaving r names t.popped t.time} (pops-some t.leaves.pops refl t.leaves.seconds) finds s z refl
      (b ∙ ap (part_of store) e ∙ sym (found-slice finds s z refl)) body

  -- as a call gives it back
  abbrev back : Out
  back = record { answer = t.answer.taken.answer; «record» = t.answer.taken.after }

  says : (hidden : List ℕ) → CanGo r words settings (lengths_of (lent_of names marks levels times line parents)) → length parents' ≡ length parents
      → lengths_of (lent_of names' marks' levels' times' line' parents') ≡ lengths_of (lent_of names marks levels times line parents)
      → NextSays (files_lent store [] hidden excluded settings) r (lent_of names marks levels times line parents) back (lent_of names' marks' levels' times' line' parents')
  says hidden c l k =
      goes-says {f = files_lent store [] hidden excluded settings} c.whole c.is_whole c.painted (taken-goes (lent_of names' marks' levels' times' line' parents') next body.plain l (record { answer = refl; after = refl })) k

  -- its number, and the record after it
  number : n ≡ outcome_number (end_given t.seen.ends (id_in (width_of settings.kind) x) t.seen.parents (time_given r.queue.timed t.time) t.answer.ends.zone (waiting_in r t.seen.after)).answer.outcome
  number = t.answer.puts.result ∙ ap (λ (y : Taken). outcome_number y.answer.outcome) t.answer.ends.is

  not-closed : eqb n 12 ≡ false
  not-closed = ap (λ (k : ℕ). eqb k 12) number ∙ ended_open t.seen.ends (id_in (width_of settings.kind) x) t.seen.parents (time_given r.queue.timed t.time) t.answer.ends.zone (waiting_in r t.seen.after)

  after : waiting_in r t.seen.after ≡ t.answer.taken.after
  after =
      sym (ap (λ (y : Taken). y.after) t.answer.ends.is ∙ ended-after t.seen.ends (id_in (width_of settings.kind) x) t.seen.parents (time_given r.queue.timed t.time) t.answer.ends.zone (waiting_in r t.seen.after))

  pub goes : (hidden : List ℕ) → CanGo r words settings (lengths_of (lent_of names marks levels times line parents)) → r ≡ record_of words → length parents' ≡ length parents
      → lengths_of (lent_of names' marks' levels' times' line' parents') ≡ lengths_of (lent_of names marks levels times line parents)
      → (u : Out) × NextSays (files_lent store [] hidden excluded settings) (record_of words) (lent_of names marks levels times line parents) u (lent_of names' marks' levels' times' line' parents')
      × PutsAnswer (width_of settings.kind) u.answer id id' numbers numbers' seconds seconds' n × PutsRecord n u.record words words'
  goes hidden c k l h =
      (back, subst (λ (y : Record). NextSays (files_lent store [] hidden excluded settings) y (lent_of names marks levels times line parents) back (lent_of names' marks' levels' times' line' parents')) k (says hidden c l h), t.answer.puts, subst (λ (y : Record). PutsRecord n y words words') after (kept-words n not-closed c.plain t.waits k))

-- a call from the store
pub stored-goes : {excluded store : List ℕ} {r : Record} {settings : Settings} {names marks levels : List ℕ} {times : List ℤ} {line parents names' marks' levels' : List ℕ} {times' : List ℤ} {line' parents' words words' id id' numbers numbers' : List ℕ} {seconds seconds' : List ℤ} {n slot s z : ℕ} {x d : List ℕ} {at : Located}
    → TakesBody excluded settings store d r x (lent_of names marks levels times line parents) (lent_of names' marks' levels' times' line' parents') words words' id id' numbers numbers' seconds seconds' n
    → slot ≡ place_of r.queue line 0 → x ≡ padded (id_at_slot r names slot) → Locates (width_of settings.kind) store (id_in (width_of settings.kind) x) at → at ≡ Body s z → d ≡ part_of store at
    → CanGo r words settings (lengths_of (lent_of names marks levels times line parents)) → r ≡ record_of words → length parents' ≡ length parents
    → lengths_of (lent_of names' marks' levels' times' line' parents') ≡ lengths_of (lent_of names marks levels times line parents)
    → GoesInPlace store [] excluded settings (lent_of names marks levels times line parents) (lent_of names' marks' levels' times' line' parents') words words' id id' numbers numbers' seconds seconds' n
stored-goes t f i o e b c k l h = record { still = t.still; made = λ m hidden. goes (t.took m) f i o e b hidden c k l h }

-- a body whose end is set down has a number of its own
pub end-made : {w : ℕ} {r : Record} {seen : BodyVisited} {h : Header} {x : List ℕ} {t : Option Seconds} {id id' numbers numbers' : List ℕ} {seconds seconds' : List ℤ} {n : ℕ} → PutsEnd w r seen h x t id id' numbers numbers' seconds seconds' n → n ≡ not_made_number → ⊥
end-made {w} {r} {seen} {x = x} {t = t} p e =
    ended-made seen.ends (id_in w x) seen.parents t p.ends.zone (waiting_in r seen.after) (sym (ap (λ (y : Taken). outcome_number y.answer.outcome) p.ends.is) ∙ sym p.puts.result ∙ e)
