-- `inplace::stored::put_end` meets its contract: a whole body's answer is set down from its parts, and any other by value. Assumes nothing.
use Rattle.std.specs.Prelude.{None}
use mathlib.Core.Path.{sym, ap, subst}
use Rattle.hash.specs.Bytes.{Id, width_of}
use Rattle.object.specs.Ids.{id_in}
use Rattle.reading.specs.declared.body.BodyEnd.{BodyEnd}
use Rattle.reading.specs.declared.body.BodyEnd.TheVariants.{Whole}
use Rattle.state.specs.Shapes.{waiting_in}
use Rattle.visit.specs.Taking.{end_given}
use Rattle.wire.specs.Numbers.{commit_given, PutsAnswer}
use Rattle.inplace.proofs.stored.put_end.Goals as goal

pub returns-in-Whole : goal.returns-in-Whole
returns-in-Whole c = let x = c.args in
    record {
      taken = end_given Whole (id_in (width_of x.kind) x.x.bytes) x.seen.parents x.time c.zone_past.result (waiting_in x.«record» x.seen.after);
      ends = record {
        zone = c.zone_past.result;
        right = λ g h e. c.zone_past.ensures g h;
        is = ap (λ (e : BodyEnd). end_given e (id_in (width_of x.kind) x.x.bytes) x.seen.parents x.time c.zone_past.result (waiting_in x.«record» x.seen.after)) (sym c.in-Whole.is);
      };
      puts = subst (λ (y : Id). PutsAnswer (width_of x.kind) (commit_given y x.seen.parents None x.time c.zone_past.result x.seen.after.admitted x.«record».struck x.seen.after.queue.count) x.id.now c.put_commit.new.id x.numbers.now c.put_commit.new.numbers x.seconds.now c.put_commit.new.seconds 0) c.id_slice.ensures c.put_commit.ensures;
    }
