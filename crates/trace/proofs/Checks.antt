-- Refusals 25 and 2 to 4: which test decides, and what passes them. Assumes nothing.
use Rattle.std.specs.Prelude.{None, Option, Some}
use mathlib.Core.Path.{◌≡◌, refl, sym}
use Prim.Native.Nat.{ℕ, ◌%◌, ◌≤◌, ◌<◌}
use mathlib.Core.Bool.{Bool, true, false, cond, ◌&&◌}
use mathlib.Core.List.{List}
use lib.ListN.{length}
use lib.Dec.{eqb, leb}
use borrow.Author.Tests.{le-leb, lt-leb}
use Rattle.hash.proofs.Tests.{no-some}
use Rattle.odb.specs.Store.{store_is_ok}
use Rattle.walk.specs.declared.Refusal.{Refusal}
use Rattle.walk.specs.declared.Refusal.TheVariants.{InputTooLarge, PartialId, CorruptStore, TooManyMoves}
use Rattle.walk.specs.Opening.{list_limit}
use Rattle.trace.specs.Call.{most_moves, early_refusal}

module _ (width : ℕ) (store list : List ℕ) (d : ℕ) where
  pub by-moves : most_moves < d → early_refusal width store list d ≡ Some TooManyMoves
  unfolding early_refusal
  by-moves h = rw (lt-leb d most_moves h)

  module _ (m : d ≤ most_moves) where
    pub by-store-size : 16777216 < length store → early_refusal width store list d ≡ Some InputTooLarge
    unfolding early_refusal
    by-store-size h = rw (le-leb d most_moves m, lt-leb (length store) 16777216 h)

    module _ (s : length store ≤ 16777216) where
      pub by-list-size : list_limit width < length list → early_refusal width store list d ≡ Some InputTooLarge
      unfolding early_refusal
      by-list-size h = rw (le-leb d most_moves m, le-leb (length store) 16777216 s, lt-leb (length list) (list_limit width) h)

      module _ (l : length list ≤ list_limit width) where
        pub by_width : eqb (length list % width) 0 ≡ false → early_refusal width store list d ≡ Some PartialId
        unfolding early_refusal
        by_width h = rw (le-leb d most_moves m, le-leb (length store) 16777216 s, le-leb (length list) (list_limit width) l, h)

        module _ (w : eqb (length list % width) 0 ≡ true) where
          pub by-store : store_is_ok width store ≡ false → early_refusal width store list d ≡ Some CorruptStore
          unfolding early_refusal
          by-store h = rw (le-leb d most_moves m, le-leb (length store) 16777216 s, le-leb (length list) (list_limit width) l, w, h)

          pub by-none : store_is_ok width store ≡ true → early_refusal width store list d ≡ None
          unfolding early_refusal
          by-none h = rw (le-leb d most_moves m, le-leb (length store) 16777216 s, le-leb (length list) (list_limit width) l, w, h)

  pick-none : (t : Bool) (n : Option Refusal) (r : Refusal) → cond t n (Some r) ≡ None → (t ≡ true) × (n ≡ None)
  pick-none true n r e = (refl, e)
  pick-none false n r e = no-some (sym e)

  pub passed-store : early_refusal width store list d ≡ None → store_is_ok width store ≡ true
  unfolding early_refusal
  passed-store e =
      let p = pick-none (leb d most_moves) _ TooManyMoves e in
      let q = pick-none (leb (length store) 16777216 && leb (length list) (list_limit width)) _ InputTooLarge p.1 in
      let r = pick-none (eqb (length list % width) 0) _ PartialId q.1 in
      (pick-none (store_is_ok width store) None CorruptStore r.1).0
