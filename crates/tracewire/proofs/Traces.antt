-- A call through the library: with no room nothing is done; else the start is the first bytes lent, and what is said is set down. Assumes nothing.
use mathlib.Core.Path.{◌≡◌, refl, ◌∙◌, ap, subst}
use Prim.Native.Nat.{ℕ, ◌≤◌}
use mathlib.Core.Bool.{Bool, true, false, ◌&&◌}
use mathlib.Core.List.{List}
use lib.ListN.{length}
use lib.Dec.{leb}
use borrow.Author.Tests.{leb-true}
use Rattle.hash.specs.Bytes.{Id, width_of}
use Rattle.hash.specs.declared.Kind.{Kind}
use Rattle.hash.proofs.Tests.{clash, and_first}
use Rattle.hash.proofs.Widths.{width-most}
use Rattle.object.specs.Ids.{id_in, padded}
use Rattle.trace.specs.Call.{Traced, TraceSays}
use Rattle.wire.proofs.FirstBytes.{first-bytes}
use Rattle.tracewire.specs.Wire.{no_room_number, room_to_trace, PutsTraced, LibraryTrace}

long-start : (w : ℕ) (start id numbers : List ℕ) → room_to_trace w start id numbers ≡ true → w ≤ length start
unfolding room_to_trace
long-start w start id numbers h =
    leb-true w (length start)
    (and_first (leb w (length start)) (leb w (length id)) (and_first (leb w (length start) && leb w (length id)) (leb 2 (length numbers)) h))

pub no_room-says : (kind : Kind) (store start list : List ℕ) (d : ℕ) (m id numbers : List ℕ) {k : Kind} {b : Bool} → k ≡ kind → b ≡ room_to_trace (width_of k) start id numbers → b ≡ false
    → LibraryTrace (width_of kind) store start list d m m id id numbers numbers no_room_number
no_room-says kind store start list d m id numbers e r h = subst (λ (x : Kind). LibraryTrace (width_of x) store start list d m m id id numbers numbers no_room_number) e
    (record { no_room = λ g. (refl, refl, refl, refl); made = λ g. clash (r ∙ g) h })

-- the call was made with the kind k, which is that of the width, and lent the value a that the start was made into, and the moves i
pub made-says : {k kind : Kind} {store start list a : List ℕ} {d i : ℕ} {m m' id id' numbers numbers' : List ℕ} {n : ℕ} {o : Traced} {t : Bool} → k ≡ kind → t ≡ room_to_trace (width_of k) start id numbers → t ≡ true → a ≡ padded start → i ≡ d
    → TraceSays (width_of k) store list i (id_in (width_of k) a) m m' o → PutsTraced (width_of k) o id id' numbers numbers' n → LibraryTrace (width_of kind) store start list d m m' id id' numbers numbers' n
made-says {k} {kind} {store} {start} {list} {a} {d} {i} {m} {m'} {id} {id'} {numbers} {numbers'} {n} {o} e r t ea ed s p =
    let w = width_of k in
    subst (λ (x : Kind). LibraryTrace (width_of x) store start list d m m' id id' numbers numbers' n) e
    (record {
      no_room = λ g. clash t (r ∙ g);
      made = λ g. record {
        out = o;
        says =
            subst (λ (y : Id). TraceSays w store list d y m m' o) (ap (id_in w) ea ∙ first-bytes w (width-most k) start (long-start w start id numbers g))
            (subst (λ (j : ℕ). TraceSays w store list j (id_in w a) m m' o) ed s);
        puts = p;
      };
    })
