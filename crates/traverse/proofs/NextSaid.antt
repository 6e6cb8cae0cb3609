-- What a next call comes to: a closed record gives 12; a painted one takes the next commit of the state that the memory reads as; the first call takes it
-- from the state that painting leaves, or gives painting's refusal. So each answer is the walk's, and on any bytes one of document 01's. Assumes nothing.
use Rattle.std.specs.Prelude.{None, Ok, Err}
use mathlib.Core.Path.{◌≡◌, refl, sym, ◌∙◌, ap, subst}
use Prim.Native.Nat.{ℕ, ◌<◌}
use mathlib.Core.Bool.{Bool, true, false}
use mathlib.Core.List.{List, []}
use native.Mathlib.Omega.{arith}
use lib.ListN.{length}
use Rattle.hash.specs.declared.Kind as Ids
use Rattle.hash.proofs.Widths.{width_least}
use Rattle.hash.proofs.Tests.{clash}
use Rattle.walk.specs.declared.Refusal.{Refusal}
use Rattle.walk.specs.declared.Outcome.TheVariants.{End, Refused}
use Rattle.walk.specs.State.{State}
use Rattle.walk.specs.Opening.{Input, walk_of}
use Rattle.walk.specs.Next.{refused, step, take_next, next, first_call}
use Rattle.walk.specs.Calls.{state_after}
use Rattle.walk.specs.Given.{Given, no_id, given, joined, parents_given}
use Rattle.walk.proofs.FirstCall.{only-first}
use Rattle.walk.specs.Universe.{universe}
use Rattle.opening.proofs.Input.{places-few}
use Rattle.state.specs.declared.Record.{Record}
use Rattle.state.specs.Reads.{Memory, Shape, Reads}
use Rattle.state.specs.Shapes.{shape_of}
use Rattle.state.proofs.States.{queue-length}
use Rattle.visit.specs.declared.next.Taken.{Taken}
use Rattle.visit.specs.Taking.{gave, Rests, TakesNext}
use Rattle.visit.specs.Plain.{Plain}
use Rattle.reading.proofs.Down.{set_down-none}
use Rattle.painting.specs.declared.PaintError.{PaintError}
use Rattle.painting.specs.declared.PaintError.TheVariants as painting
use Rattle.painting.specs.First.{Painted, AtFirst, GoesOn, Told, RefusesBy, Paints}
use Rattle.traverse.specs.declared.Out.{Out}
use Rattle.traverse.specs.Contract.{Files, input_with, Lent, lengths_of, OfPaper, NextSays}
use Rattle.traverse.specs.Next.{Whole, GivesBack, shut_with, stops, Goes}
use Rattle.traverse.proofs.Standing.{goes_by, world_is, in_rows, in_store_lem, Stands, stands, good-store, good-graph, room-parents, room-levels, few-admitted, rests, stands-whole, says-step, next-painted, next-first, first-state, whole_room}
use Rattle.traverse.proofs.Paper.{of_paper, of_paper-refused, plain_end, of_paper-shut, not-shut, call_not_shut}
use Rattle.hash.specs.Bytes.{width_of}

-- an id has bytes
some_bytes : (kind : Ids.Kind) → 0 < width_of kind
some_bytes kind = omega (arith, width_least kind)

-- ---- a painted record

module _ {f : Files} {r : Record} {m : Lent} {t : Taken} {o : Out} (m' : Lent)
    (n : TakesNext f.excluded f.settings f.graph f.store r m.memory m'.memory m.parents m'.parents t)
    (p : Plain (width_of f.settings.kind) m.parents m'.parents t.answer) (l : length m'.parents ≡ length m.parents) (b : GivesBack t o) where
  pub taken-goes : Goes true f r m o m'
  taken-goes = record {
    opened-call = λ h tips k st e g.
        let i = input_with f tips in
        let s = stands i m r k st e g in
        let q = n.right (good-store s) (good-graph s) (walk_of i) (shape_of i) (state_after i k) (universe i) (goes_by i) refl (world_is i) (rests s) (in_rows i) (in_store_lem i) (room-parents s) in
        says-step s (take_next (walk_of i) (state_after i k)) (next-painted (walk_of i) (state_after i k) (s.reads.painted ∙ h)) o m' (b.answer ∙ q.answer) q.down
        (subst (λ (y : Record). Reads y m'.memory (shape_of i) (take_next (walk_of i) (state_after i k)).state) (sym b.after) q.reads);
    not-twelve = λ e. not-shut p (ap (λ (a : Given). a.outcome) (sym b.answer) ∙ e);
    of_paper = λ h. subst (λ (a : Given). OfPaper (width_of f.settings.kind) a m.parents m'.parents) (sym b.answer) (of_paper (width_of f.settings.kind) (some_bytes f.settings.kind) p l h);
  }

-- ---- the first call

-- a state that is not painted is the one that the opening left, and the call paints
module _ {i : Input} {m : Lent} {r : Record} {k : ℕ} {st : State} (s : Stands i m r k st) (h : r.painted ≡ false) where
  is-first : state_after i k ≡ st
  is-first = ap (state_after i) (only-first i k (s.reads.painted ∙ h)) ∙ first-state i st s.accepted

  at_first : AtFirst i r m.memory m.levels st
  at_first = record { accepted = s.accepted; reads = subst (Reads r m.memory (shape_of i)) is-first s.reads; for_levels = room-levels s }

  paints-first : next (walk_of i) (state_after i k) ≡ first_call (walk_of i) st
  paints-first = ap (next (walk_of i)) is-first ∙ next-first (walk_of i) st (ap (λ (q : State). q.painted) (sym is-first) ∙ s.reads.painted ∙ h)

  -- the state that painting leaves
  rests-after : {r' : Record} {m₁ : Memory} (g : GoesOn i st r' m₁) → Rests (shape_of i) r' m₁ g.after (universe i)
  rests-after g =
      let e : (state_after i k).admitted ≡ st.admitted = ap (λ (q : State). q.admitted) is-first in
      record {
        reads = g.reads;
        inside = g.inside;
        slots = omega (arith, places-few i s.passed);
        numbers = omega (arith, places-few i s.passed, few-admitted s, g.same-admitted, e);
      }

-- an answer with no parents leaves the buffer
none-down : (w : Refusal) (st : State) (b : List ℕ) → b ≡ parents_given (step (refused w) [] st).answer b
unfolding step parents_given joined
none-down w st b = set_down-none b

-- the numbers of painting's refusal are those of its state
refused-given : {r : Record} {m : Memory} {sh : Shape} {st : State} (w : Refusal) → Reads r m sh st
    → (gave (Refused w) no_id 0 None None None r).answer ≡ given (step (refused w) [] st).answer
unfolding step given
refused-given w g = λ k. record {
  outcome = Refused w;
  info = record { id = no_id; parents = 0; generation = None; time = None; zone = None };
  admitted = sym g.admitted k;
  struck = sym g.struck k;
  waiting = sym (queue-length g) k;
}

refused-reads : {r : Record} {m : Memory} {sh : Shape} {st : State} (w : Refusal) → Reads r m sh st → Reads r m sh (step (refused w) [] st).state
unfolding step
refused-reads w g = g

module _ {f : Files} {r : Record} {m : Lent} {p : Painted} {m₁ : Memory} (d : Paints f.store f.graph f.hidden r m.memory m.levels m₁ p) where
  told : {k : ℕ} {st : State} (tips : List ℕ) → Stands (input_with f tips) m r k st → r.painted ≡ false → Told (input_with f tips) st m₁ p
  told {st = st} tips s h = d.right (input_with f tips) refl refl refl st (at_first s h)

  -- painting is over, and the next commit is taken
  pub done-goes : {r₁ : Record} {t : Taken} {o : Out} (m' : Lent) → p ≡ Ok r₁
      → TakesNext f.excluded f.settings f.graph f.store r₁ m₁ m'.memory m.parents m'.parents t
      → Plain (width_of f.settings.kind) m.parents m'.parents t.answer → length m'.parents ≡ length m.parents → GivesBack t o → Goes false f r m o m'
  done-goes {o = o} m' y n q l b = record {
    opened-call = λ h tips k st e g.
        let i = input_with f tips in
        let s = stands i m r k st e g in
        let j = subst (Told i st m₁) y (told tips s h) in
        let z = n.right (good-store s) (good-graph s) (walk_of i) (shape_of i) j.after (universe i) (goes_by i) refl (world_is i) (rests-after s h j) (in_rows i) (in_store_lem i) (room-parents s) in
        says-step s (take_next (walk_of i) j.after) (paints-first s h ∙ j.is) o m' (b.answer ∙ z.answer) z.down
        (subst (λ (w : Record). Reads w m'.memory (shape_of i) (take_next (walk_of i) j.after).state) (sym b.after) z.reads);
    not-twelve = λ e. not-shut q (ap (λ (a : Given). a.outcome) (sym b.answer) ∙ e);
    of_paper = λ h. subst (λ (a : Given). OfPaper (width_of f.settings.kind) a m.parents m'.parents) (sym b.answer) (of_paper (width_of f.settings.kind) (some_bytes f.settings.kind) q l h);
  }

  -- painting does not go on: it was refused, or the memory was seen to be touched
  pub stopped-goes : {o : Out} (levels : List ℕ) (e : PaintError) → p ≡ Err e → GivesBack (stops r e) o → Goes false f r m o (record { memory = m₁; levels = levels; parents = m.parents })
  stopped-goes {o} levels (painting.Refused w r₁) y b =
      let c = subst RefusesBy y d.of_call in
      record {
        opened-call = λ h tips k st e g.
            let i = input_with f tips in
            let s = stands i m r k st e g in
            let j = subst (Told i st m₁) y (told tips s h) in
            says-step s (step (refused w) [] j.after) (paints-first s h ∙ j.is) o (record { memory = m₁; levels = levels; parents = m.parents })
            (b.answer ∙ refused-given w j.reads) (none-down w j.after m.parents)
            (subst (λ (z : Record). Reads z m₁ (shape_of i) (step (refused w) [] j.after).state) (sym b.after) (refused-reads w j.reads));
        not-twelve = λ e. call_not_shut w c (ap (λ (a : Given). a.outcome) (sym b.answer) ∙ e);
        of_paper = λ h. subst (λ (a : Given). OfPaper (width_of f.settings.kind) a m.parents m.parents) (sym b.answer) (of_paper-refused m.parents w r₁ c);
      }
  stopped-goes {o} levels painting.Touched y b =
      let q = plain_end m.parents r in
      record {
        opened-call = λ h tips k st e g. absurd (subst (Told (input_with f tips) st m₁) y (told tips (stands (input_with f tips) m r k st e g) h));
        not-twelve = λ e. not-shut q (ap (λ (a : Given). a.outcome) (sym b.answer) ∙ e);
        of_paper = λ h. subst (λ (a : Given). OfPaper (width_of f.settings.kind) a m.parents m.parents) (sym b.answer) (of_paper (width_of f.settings.kind) (some_bytes f.settings.kind) q refl h);
      }

-- ---- the call

module _ {f : Files} {r : Record} {m : Lent} {a : Bool} {o : Out} (w : Whole f.settings.kind r (lengths_of m) a) where
  -- 12, and nothing is altered
  pub closed-says : a ≡ false → GivesBack (shut_with r) o → NextSays f r m o m
  closed-says e b = record {
    opened-call = λ tips k st q g. clash (stands-whole (stands (input_with f tips) m r k st q g) w refl) e;
    closed-call = λ h. b.answer;
    twelve = λ h. (b.after, refl, b.answer);
    of_paper = subst (λ (z : Given). OfPaper (width_of f.settings.kind) z m.parents m.parents) (sym b.answer) (of_paper-shut m.parents);
    same-lengths = refl;
  }

  pub goes-says : {m' : Lent} {b : Bool} → a ≡ true → r.painted ≡ b → Goes b f r m o m' → lengths_of m' ≡ lengths_of m → NextSays f r m o m'
  unfolding lengths_of
  goes-says e h g l = record {
    opened-call = g.opened-call h;
    closed-call = λ q. clash (whole_room w e).0 q;
    twelve = λ q. absurd (g.not-twelve q);
    of_paper = g.of_paper (whole_room w e).1;
    same-lengths = l;
  }
