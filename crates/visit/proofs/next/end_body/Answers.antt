-- `visit::next::end_body` meets its contract: an answer for each end of the reading. Assumes nothing.
use Rattle.std.specs.Prelude.{None}
use mathlib.Core.Path.{sym, ap, ◌∙◌}
use Rattle.reading.specs.declared.body.BodyEnd.{BodyEnd}
use mathlib.Core.List.{List}
use Prim.Native.Nat.{ℕ}
use Rattle.walk.specs.declared.Outcome.TheVariants.{Commit}
use Rattle.visit.specs.Taking.{gave, end_given}
use Rattle.object.specs.Ids.{id_in}
use Rattle.state.specs.Shapes.{waiting_in}
use Rattle.visit.proofs.Past.{unreadable_not_whole, crowded_not_whole}
use Rattle.hash.specs.Bytes.{width_of}
use Rattle.visit.proofs.next.end_body.Goals as goal

pub returns-in-Whole : goal.returns-in-Whole
returns-in-Whole c = let a = c.args in
    let z = c.zone_past.result in
    record {
      zone = z;
      right = λ g h e. c.zone_past.ensures g h;
      is = c.give.ensures
          ∙ ap (λ (y : List ℕ). gave Commit y a.seen.parents None a.time z (waiting_in a.r a.seen.after)) c.id_given.ensures
          ∙ ap (λ (e : BodyEnd). end_given e (id_in (width_of a.kind) a.id.bytes) a.seen.parents a.time z (waiting_in a.r a.seen.after)) (sym c.in-Whole.is);
    }

pub returns-in-Unreadable : goal.returns-in-Unreadable
returns-in-Unreadable c = let a = c.args in
    let e = c.in-Unreadable.is in
    record {
      zone = None;
      right = λ g h k. absurd (unreadable_not_whole (sym e ∙ k));
      is = c.refuse.ensures ∙ ap (λ (e : BodyEnd). end_given e (id_in (width_of a.kind) a.id.bytes) a.seen.parents a.time None (waiting_in a.r a.seen.after)) (sym e);
    }

pub returns-in-Crowded : goal.returns-in-Crowded
returns-in-Crowded c = let a = c.args in
    let e = c.in-Crowded.is in
    record {
      zone = None;
      right = λ g h k. absurd (crowded_not_whole (sym e ∙ k));
      is = c.refuse-in-Crowded.ensures ∙ ap (λ (e : BodyEnd). end_given e (id_in (width_of a.kind) a.id.bytes) a.seen.parents a.time None (waiting_in a.r a.seen.after)) (sym e);
    }
