-- A commit is taken, whether its parents are all new or are looked for. Assumes nothing.
use Rattle.std.specs.Prelude.{None, Option, Some, Ok, Err}
use mathlib.Core.Path.{◌≡◌, sym, subst}
use mathlib.Core.Logic.{⊎_elim}
use Prim.Native.Nat.{ℕ}
use mathlib.Core.Bool.{false}
use mathlib.Core.List.{List, []}
use lib.ListN.{get_or, set}
use lib.IntN.{ℤ}
use Rattle.hash.specs.Bytes.{Id}
use Rattle.object.specs.Header.{Header}
use Rattle.walk.specs.Lookup.{World, Pair}
use Rattle.walk.specs.Reach.{Mem}
use Rattle.reach.specs.Memory.{lent, Told, NotesParents}
use Rattle.falling.specs.Cells.{slots_in, Lowered, LowersParents}
use Rattle.tested.specs.declared.step.StepError.TheVariants.{NoRoom}
use Rattle.tested.specs.Passes.{held, Going, InHand, Takes}
use Rattle.tested.proofs.Taking.{right₁, slot_of, taken}
use Rattle.tested.proofs.Fresh.{new-lowered}

module _ (width : ℕ) (cap from : ℕ) (names marks levels : List ℕ) (times : List ℤ) (line : List ℕ) (n slot : ℕ) (q : Pair) (hd : Header) (c : ℕ) {names₁ marks₁ line₁ : List ℕ} {r : Option ℕ}
    (p : NotesParents width false cap from hd (lent names marks line) (lent names₁ marks₁ line₁) n c r) where
  told : (w : World) (u roots l : List Id) (k : ℕ) → Going width w u roots cap from (held names marks levels times line) n l k → InHand w from (held names marks levels times line) l k slot q hd c
      → Told width false cap from u (lent names marks line) (lent names₁ marks₁ line₁) l hd.ids r
  told w u roots l k v a = p.right a.tree a.count u l v.seeking.lists v.seeking.named (λ x j. v.seeking.parents_in (get_or l k []) x (subst (λ (z : List Id). Mem x z) (sym a.links_are) j))

  pub take_count : {levels' : List ℕ} {times' : List ℤ} → levels' ≡ set levels slot q.generation → times' ≡ set times slot q.time → (n' : ℕ) {line₂ : List ℕ} → r ≡ Some n'
      → LowersParents width (slots_in names₁ marks₁ levels' times') cap from n n' slot hd c line₁ line₂
      → Takes width cap from (held names marks levels times line) (held names₁ marks₁ levels' times' line₂) n slot q hd c (Ok n')
  take_count {levels'} {times'} sl st n' {line₂} e lf = record {
    right = λ w u roots l k v h a.
        let o = subst (Told width false cap from u (lent names marks line) (lent names₁ marks₁ line₁) l hd.ids) e (told w u roots l k v a) in
        let lo : Lowered width (slots_in names₁ marks₁ levels' times') cap slot hd.ids line₁ line₂ = ⊎_elim (λ f. new-lowered v h a sl st o f.0 f.1) (λ f. f.right (right₁ v h a sl st o) a.tree a.count (slot_of v h a sl st o)) lf.either in
        record { list = o.list; going = taken v h a sl st o lo };
  }

  pub take_none : {levels' : List ℕ} {times' : List ℤ} → r ≡ None → Takes width cap from (held names marks levels times line) (held names₁ marks₁ levels' times' line₁) n slot q hd c (Err NoRoom)
  take_none e = record { right = λ w u roots l k v h a. subst (Told width false cap from u (lent names marks line) (lent names₁ marks₁ line₁) l hd.ids) e (told w u roots l k v a) }
