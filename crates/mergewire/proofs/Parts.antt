-- A call through the library: with no room nothing is done; else the tips are the first bytes lent, and what is said is set down. Assumes nothing.
use mathlib.Core.Path.{◌≡◌, refl, ◌∙◌, ap, subst}
use Prim.Native.Nat.{ℕ, ◌≤◌}
use mathlib.Core.Bool.{Bool, true, false, ◌&&◌}
use mathlib.Core.List.{List}
use lib.ListN.{length, take}
use lib.Dec.{leb}
use borrow.Author.Tests.{leb-true}
use Rattle.hash.specs.Bytes.{Id, width_of}
use Rattle.hash.specs.declared.Kind.{Kind}
use Rattle.hash.proofs.Tests.{clash, and_first, and_second}
use Rattle.hash.proofs.Widths.{width-most}
use Rattle.object.specs.Ids.{id_in, padded}
use Rattle.walk.specs.Opening.{Lengths}
use Rattle.reach.specs.Memory.{Lent}
use Rattle.mergebase.specs.Parting.{MergeBase}
use Rattle.mergebase.specs.Call.{MergeBaseSays}
use Rattle.wire.proofs.FirstBytes.{first-bytes}
use Rattle.mergewire.specs.Wire.{no_room_number, room_to_part, PutsBase, LibraryMergeBase}

module _ (w : ℕ) (one other id numbers : List ℕ) (h : room_to_part w one other id numbers ≡ true) where
  both : (leb w (length one) && leb w (length other)) ≡ true
  unfolding room_to_part
  both =
      and_first (leb w (length one) && leb w (length other)) (leb w (length id))
      (and_first (leb w (length one) && leb w (length other) && leb w (length id)) (leb 1 (length numbers)) h)

  pub long-one : w ≤ length one
  long-one = leb-true w (length one) (and_first (leb w (length one)) (leb w (length other)) both)

  pub long-other : w ≤ length other
  long-other = leb-true w (length other) (and_second (leb w (length one)) (leb w (length other)) both)

pub no_room-says : (kind : Kind) (store one other : List ℕ) (l : Lengths) (m : Lent) (levels id numbers : List ℕ) {k : Kind} {b : Bool} → k ≡ kind → b ≡ room_to_part (width_of k) one other id numbers → b ≡ false
    → LibraryMergeBase kind store one other l m m levels levels id id numbers numbers no_room_number
no_room-says kind store one other l m levels id numbers e r h = subst (λ (x : Kind). LibraryMergeBase x store one other l m m levels levels id id numbers numbers no_room_number) e
    (record { no_room = λ g. (refl, refl, refl, refl, refl); made = λ g. clash (r ∙ g) h })

-- the call was made with the kind k, which is that of the width, and lent the values a and b that the tips were made into
pub made-says : {k kind : Kind} {store one other a b : List ℕ} {l : Lengths} {m m' : Lent} {levels levels' id id' numbers numbers' : List ℕ} {n : ℕ} {o : MergeBase} {t : Bool}
    → k ≡ kind → t ≡ room_to_part (width_of k) one other id numbers → t ≡ true → a ≡ padded one → b ≡ padded other
    → MergeBaseSays k store (id_in (width_of k) a) (id_in (width_of k) b) l m m' levels levels' o → PutsBase (width_of k) o id id' numbers numbers' n
    → LibraryMergeBase kind store one other l m m' levels levels' id id' numbers numbers' n
made-says {k} {kind} {store} {one} {other} {a} {b} {l} {m} {m'} {levels} {levels'} {id} {id'} {numbers} {numbers'} {n} {o} e r t ea eb s p =
    let w = width_of k in
    subst (λ (x : Kind). LibraryMergeBase x store one other l m m' levels levels' id id' numbers numbers' n) e
    (record {
      no_room = λ g. clash t (r ∙ g);
      made = λ g. record {
        out = o;
        says =
            subst (λ (y : Id). MergeBaseSays k store (take w one) y l m m' levels levels' o) (ap (id_in w) eb ∙ first-bytes w (width-most k) other (long-other w one other id numbers g))
            (subst (λ (y : Id). MergeBaseSays k store y (id_in w b) l m m' levels levels' o) (ap (id_in w) ea ∙ first-bytes w (width-most k) one (long-one w one other id numbers g)) s);
        puts = p;
      };
    })
