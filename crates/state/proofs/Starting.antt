-- Emptied slots beside a fresh record: no slot is live and none waits, so the memory reads as a walk with no tips. Assumes nothing.
use mathlib.Core.Path.{◌≡◌, refl, sym, ap, ◌∙◌, subst}
use Prim.Native.Nat.{ℕ}
use mathlib.Core.Bool.{Bool, false}
use mathlib.Core.List.{List, [], map}
use native.Mathlib.Omega.{arith}
use lib.IntN.{ℤ}
use Rattle.hash.proofs.Tests.{clash}
use Rattle.hashtable.specs.Marks.{seen}
use Rattle.hashtable.specs.Table.{cleared}
use Rattle.hashtable.proofs.MarksBits.{seen_0}
use Rattle.hashtable.proofs.TableKept.{nothing-live}
use Rattle.hashtable.proofs.TableClear.{cleared-low, cleared-table, cleared-mark}
use Rattle.revwalk.specs.Order.{In}
use Rattle.revwalk.proofs.QueueSlots.{emptied, emptied-list}
use Rattle.walk.specs.State.{empty_state}
use Rattle.state.specs.declared.Fixed.{Fixed}
use Rattle.state.specs.Reads.{entry_of, waiting, Reads}
use Rattle.state.specs.Shapes.{fresh_record}
use Rattle.state.specs.Steps.{mem, Lent, Starts}
use Rattle.hash.specs.Bytes.{width_of}

module _ (timed newest : Bool) (fixed : Fixed) {names marks : List ℕ} {times : List ℤ} {line : List ℕ} {cap : ℕ} (l : Lent (width_of fixed.kind) names marks times line cap) where
  none-waits : waiting (fresh_record timed newest cap fixed) (mem names (cleared cap marks) times line) ≡ []
  none-waits = emptied-list (fresh_record timed newest cap fixed).queue times line refl

  none_in : (s : ℕ) → In s (waiting (fresh_record timed newest cap fixed) (mem names (cleared cap marks) times line)) → ⊥
  unfolding In
  none_in s h = subst (In s) none-waits h

  pub fresh-reads : Reads (fresh_record timed newest cap fixed) (mem names (cleared cap marks) times line) (record { timed = timed; newest = newest; cap = cap; fixed = fixed }) empty_state
  fresh-reads = record {
    alive = refl;
    timed = refl;
    newest = refl;
    cap = refl;
    fixed = refl;
    for_times = l.for_times;
    for_line = l.for_line;
    table = cleared-table (width_of fixed.kind) false (record { for_marks = l.for_marks; for_names = l.for_names });
    good = emptied (fresh_record timed newest cap fixed).queue times line refl refl (omega (arith, l.for_line));
    queue = sym (ap (map (entry_of (width_of fixed.kind) timed names times)) none-waits);
    waits-seen = λ s h. absurd (none_in s h);
    numbers = omega arith;
    seen-is = λ x. sym (ap seen (cleared-mark (width_of fixed.kind) false names marks cap x) ∙ seen_0);
    frontier-is = λ x. refl;
    only_seen = λ p k h a. clash a (nothing-live false (cleared cap marks) cap (cleared-low cap marks) k h);
    failed-empty = λ f. clash f refl;
    painted = refl;
    kept = refl;
    admitted = refl;
    struck = refl;
  }

pub starts : {marks marks' : List ℕ} {cap : ℕ} → marks' ≡ cleared cap marks → Starts marks marks' cap
starts e = record { empty = e; reads = λ timed newest fixed names times line l. rw e (fresh-reads timed newest fixed l) }
