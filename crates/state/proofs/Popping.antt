-- The first entry of the model's queue is that of the first waiting slot: it goes out, and the entries of the others are the queue that is
-- left. Its slot was a waiting one, so it is seen; no slot waits twice, so it does not wait any more. Assumes nothing.
use mathlib.Core.Path.{◌≡◌, refl, sym, ap, ◌∙◌, subst}
use mathlib.Core.Logic.{inl, inr}
use Prim.Native.Nat.{ℕ, ◌<◌}
use mathlib.Core.Bool.{Bool, true, false, cond, not}
use mathlib.Core.List.{List, [], ◌∷◌, map}
use native.Mathlib.Omega.{arith}
use lib.ListN.{get_or}
use lib.IntN.{ℤ, pos}
use Rattle.std.specs.Prelude.{Option, Some, None}
use Rattle.hash.specs.Bytes.{Id, width_of}
use Rattle.hash.proofs.Tests.{clash}
use Rattle.hash.proofs.Widths.{width-most}
use Rattle.hashtable.specs.Table.{id_of}
use Rattle.hashtable.proofs.TableIds.{width_of_lem}
use Rattle.date.specs.declared.Seconds.{Seconds}
use Rattle.object.specs.declared.ObjectId.{ObjectId}
use Rattle.object.specs.Ids.{padded, id_in}
use Rattle.object.proofs.IdBytes.{id_in_lem}
use Rattle.revwalk.specs.declared.queue.Popped.{Popped}
use Rattle.revwalk.specs.Order.{In}
use Rattle.revwalk.specs.Queue as queue
use Rattle.revwalk.specs.Queue.{slots_of}
use Rattle.revwalk.proofs.QueueSlots.{pop-gone, pop-low}
use Rattle.walk.specs.State.{State, with_queue}
use Rattle.state.specs.declared.Fixed.{Fixed}
use Rattle.state.specs.declared.Record.{Record}
use Rattle.state.specs.Reads.{Shape, memory_width, entry_of, waiting, Reads}
use Rattle.state.specs.declared.Waiting.{Waiting}
use Rattle.state.specs.Shapes.{waiting_in}
use Rattle.state.specs.Steps.{mem, NotWaiting, LineKept, Taken, Pops}
use Rattle.state.proofs.Entries.{Split, split, none_left}
use Rattle.state.proofs.States.{not-failed}
use Rattle.state.proofs.Queueing.{requeue}

-- what waits in the record after the pop
abbrev left_in : Record → Popped → Waiting
left_in r p = record { queue = p.queue; admitted = r.admitted }

pops-line : {r : Record} {times : List ℤ} {line line' : List ℕ} {p : Option Popped} → queue.Pops r.queue times line line' p → LineKept r line line'
pops-line o = record { long = o.long; kept = o.kept }

module _ {r : Record} {names : List ℕ} {times : List ℤ} {line line' : List ℕ} {p : Popped} (o : queue.Pops r.queue times line line' (Some p)) where
  module _ {marks : List ℕ} {sh : Shape} {st : State} (g : Reads r (mem names marks times line) sh st) where
    slots-split : (x : Id) (t : ℤ) (l : List (Id × ℤ)) → st.queue ≡ (x, t) ∷ l → Split (entry_of (memory_width sh) sh.timed names times) (waiting r (mem names marks times line)) (x, t) l
    slots-split x t l e = split (entry_of (memory_width sh) sh.timed names times) (waiting r (mem names marks times line)) (x, t) l (sym g.queue ∙ e)

    found_none : st.queue ≡ [] → ⊥
    found_none e = let n = sym (none_left (entry_of (memory_width sh) sh.timed names times) (waiting r (mem names marks times line)) (sym g.queue ∙ e)) ∙ (o.told.took g.good).list in cc

    module _ (x : Id) (t : ℤ) (l : List (Id × ℤ)) (e : st.queue ≡ (x, t) ∷ l) where
      parts : Split (entry_of (memory_width sh) sh.timed names times) (waiting r (mem names marks times line)) (x, t) l
      parts = slots-split x t l e

      took : queue.Took r.queue times line line' p
      took = o.told.took g.good

      slot-is : p.slot ≡ parts.slot
      slot-is = let e = sym took.list ∙ parts.is in cc

      rest-is : slots_of p.queue times line' ≡ parts.others
      rest-is = let e = sym took.list ∙ parts.is in cc

      entry : entry_of (memory_width sh) sh.timed names times p.slot ≡ (x, t)
      entry = ap (entry_of (memory_width sh) sh.timed names times) slot-is ∙ parts.first

      others-in : (s : ℕ) → In s parts.others → In s (waiting r (mem names marks times line))
      unfolding In
      others-in s h = subst (In s) (sym parts.is) (inr h)

      first-in : In p.slot (waiting r (mem names marks times line))
      unfolding In
      first-in = subst (In p.slot) (sym parts.is) (inl slot-is)

      failed : r.failed ≡ false
      failed = not-failed g (x, t) l e

      left : Reads (waiting_in r (left_in r p)) (mem names marks times line') sh (with_queue l st)
      unfolding with_queue
      left =
          requeue g p.queue line' r.kept st.kept r.admitted st.admitted l o.told.same o.long took.good g.kept g.admitted (omega (arith, o.told.next, g.numbers))
          (sym parts.rest ∙ ap (map (entry_of (memory_width sh) sh.timed names times)) (sym rest-is))
          (λ s h. g.waits-seen s (others-in s (subst (In s) rest-is h)))
          (λ f. clash f failed)

      slot : NotWaiting (waiting_in r (left_in r p)) (mem names marks times line') sh x p.slot
      slot = record {
        low = subst (λ (k : ℕ). p.slot < k) (o.told.same.cap ∙ g.cap) (pop-low o g.good);
        holds = ap (λ (y : Id × ℤ). y.0) entry;
        marked = g.waits-seen p.slot first-in;
        apart = pop-gone o g.good;
      }

      pub taken : {b : ObjectId} {v : Seconds} → b.bytes ≡ padded (id_of (memory_width sh) names p.slot) → v.0 ≡ get_or times p.slot (pos 0)
          → Taken r names marks times line' sh st x t l (record { slot = p.slot; id = b; seconds = v; rest = left_in r p })
      taken c v = record {
        id = ap (id_in (memory_width sh)) c ∙ id_in_lem (memory_width sh) (id_of (memory_width sh) names p.slot) (width_of_lem p.slot g.table.sized slot.low) (width-most sh.fixed.kind) ∙ slot.holds;
        seconds = λ h. v ∙ (ap (λ (b : Bool). cond b (get_or times p.slot (pos 0)) (pos 0)) (sym h) ∙ ap (λ (y : Id × ℤ). y.1) entry);
        failed = failed;
        reads = left;
        slot = slot;
        entry = entry;
      }

  pub pops-some : {b : ObjectId} {v : Seconds} → b.bytes ≡ padded (id_of (width_of r.fixed.kind) names p.slot) → v.0 ≡ get_or times p.slot (pos 0)
      → Pops r names times line line' (Some (record { slot = p.slot; id = b; seconds = v; rest = left_in r p }))
  pops-some c v = record {
    for_line = pops-line o;
    told = record {
      none = λ marks sh st g e. found_none g e;
      some = λ marks sh st x t l g e. taken g x t l e (c ∙ ap (λ (f : Fixed). padded (id_of (width_of f.kind) names p.slot)) g.fixed) v;
    };
  }

pub pops-none : {r : Record} {names : List ℕ} {times : List ℤ} {line line' : List ℕ} → queue.Pops r.queue times line line' None → Pops r names times line line' None
pops-none {names = names} {times = times} o = record {
  for_line = pops-line o;
  told = (o.told.0, λ marks sh st g. g.queue ∙ ap (map (entry_of (memory_width sh) sh.timed names times)) (o.told.1 g.good));
}
