-- Refusals 2, 4 and 1: which test decides, and what passes them. Assumes nothing.
use Rattle.std.specs.Prelude.{None, Option, Some}
use mathlib.Core.Path.{◌≡◌, refl, sym, ◌∙◌, ap}
use Prim.Native.Nat.{ℕ, ◌+◌, ◌*◌, ◌/◌, ◌≤◌, ◌<◌}
use native.Mathlib.Nat.{mul-div_cancel, zero-div}
use mathlib.Core.Bool.{Bool, true, false, cond}
use mathlib.Core.List.{List, ◌++◌}
use native.Mathlib.Omega.{arith}
use lib.ListN.{length, length-append}
use lib.Dec.{leb}
use borrow.Author.Tests.{leb-true, le-leb, lt-leb}
use Rattle.hash.specs.Bytes.{Id, width_of}
use Rattle.hash.specs.declared.Kind.{Kind}
use Rattle.object.specs.Header.{parent_size}
use Rattle.hash.proofs.Tests.{no-some}
use Rattle.hash.proofs.Widths.{width_least}
use Rattle.odb.specs.Store.{store_is_ok}
use Rattle.commitgraph.specs.Graph.{graph_count}
use Rattle.walk.specs.declared.Refusal.{Refusal}
use Rattle.walk.specs.declared.Refusal.TheVariants.{BufferTooSmall, InputTooLarge, CorruptStore}
use Rattle.walk.specs.Opening.{Lengths, P, room_for}
use Rattle.opening.proofs.Input.{room, lines_few}
use Rattle.reach.specs.Memory.{lent}
use Rattle.mergebase.specs.Parting.{tips_input, early_refusal}
use Rattle.mergebase.specs.Memory.{Roomy}

-- "P with two tips and no graph"
pub tips-places : (kind : Kind) (store : List ℕ) (a b : Id) → length a ≡ width_of kind → length b ≡ width_of kind → P (tips_input kind store a b) ≡ 2 + length store / parent_size (width_of kind)
unfolding P graph_count
tips-places kind store a b p q =
    let w = width_of kind in
    let two : length (a ++ b) ≡ 2 * w = omega (arith, p, q, length-append a b) in
    omega (arith, ap (λ (n : ℕ). n / w) two, mul-div_cancel 2 {n = w} (omega (arith, width_least kind)), zero-div w)

module _ (kind : Kind) (store : List ℕ) (a b : Id) (l : Lengths) where
  pub by_size : 16777216 < length store → early_refusal kind store a b l ≡ Some InputTooLarge
  unfolding early_refusal
  by_size h = rw (lt-leb (length store) 16777216 h)

  module _ (h : length store ≤ 16777216) where
    pub by-store : store_is_ok (width_of kind) store ≡ false → early_refusal kind store a b l ≡ Some CorruptStore
    unfolding early_refusal
    by-store e = rw (le-leb (length store) 16777216 h, e)

    pub by-room : store_is_ok (width_of kind) store ≡ true → room_for (tips_input kind store a b) l ≡ false → early_refusal kind store a b l ≡ Some BufferTooSmall
    unfolding early_refusal
    by-room e f = rw (le-leb (length store) 16777216 h, e, f)

    pub by-none : store_is_ok (width_of kind) store ≡ true → room_for (tips_input kind store a b) l ≡ true → early_refusal kind store a b l ≡ None
    unfolding early_refusal
    by-none e f = rw (le-leb (length store) 16777216 h, e, f)

  pick-none : (t : Bool) (n : Option Refusal) (r : Refusal) → cond t n (Some r) ≡ None → (t ≡ true) × (n ≡ None)
  pick-none true n r e = (refl, e)
  pick-none false n r e = no-some (sym e)

  pub all-passed : early_refusal kind store a b l ≡ None → (length store ≤ 16777216) × (store_is_ok (width_of kind) store ≡ true) × (room_for (tips_input kind store a b) l ≡ true)
  unfolding early_refusal
  all-passed e =
      let p = pick-none (leb (length store) 16777216) _ InputTooLarge e in
      let q = pick-none (store_is_ok (width_of kind) store) _ CorruptStore p.1 in
      let r = pick-none (room_for (tips_input kind store a b) l) None BufferTooSmall q.1 in
      (leb-true _ _ p.0, q.0, r.0)

-- memory of these lengths has room
pub roomy : (kind : Kind) (store names marks line levels : List ℕ) (a b : Id) (l : Lengths) (cap : ℕ) → l.names ≡ length names → l.marks ≡ length marks → l.levels ≡ length levels → l.line ≡ length line
    → length a ≡ width_of kind → length b ≡ width_of kind → cap ≡ 2 + length store / parent_size (width_of kind) → length store ≤ 16777216 → room_for (tips_input kind store a b) l ≡ true
    → Roomy (width_of kind) store (lent names marks line) levels cap
roomy kind store names marks line levels a b l cap en em ev ei p q c h e =
    let r = room (tips_input kind store a b) l e in
    let t : cap ≡ P (tips_input kind store a b) = c ∙ sym (tips-places kind store a b p q) in
    record {
      sized = record { for_marks = omega (arith, r.marks-room, t); for_names = omega (arith, r.names-room, ap (λ (n : ℕ). width_of kind * n) t) };
      two_runs = omega (arith, r.line-room, t);
      stains = omega (arith, r.levels-room, t);
      enough = omega (arith, c);
      small = omega (arith, c, lines_few kind (length store));
    }
