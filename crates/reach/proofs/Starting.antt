-- A search begins: memory whose marks are cleared has nothing marked, and P places are room for all that can be met. A second search
-- in the same table leaves what the first has found. Assumes nothing.
use Rattle.std.specs.Prelude.{None, Option, Some, Result, Ok, Err}
use mathlib.Core.Path.{◌≡◌, refl, sym, ◌∙◌, ap, subst}
use Prim.Native.Nat.{ℕ, ◌+◌, ◌/◌, ◌≤◌}
use mathlib.Core.Bool.{Bool, true, false, not}
use mathlib.Core.List.Memᴰ
use mathlib.Core.List.{List, []}
use native.Mathlib.Omega.{arith}
use lib.ListN.{length, get_or, length-append}
use Rattle.object.specs.Header.{parent_size}
use Rattle.hash.specs.Bytes.{Id}
use Rattle.hash.proofs.Tests.{clash}
use Rattle.odb.specs.Store.{store_is_ok}
use Rattle.hashtable.specs.Table.{Sized, Holds, cleared}
use Rattle.hashtable.proofs.TableClear.{cleared-table, cleared-mark}
use Rattle.walk.specs.Lookup.{World, world_of}
use Rattle.walk.specs.Reach.{Mem, empty, links}
use Rattle.walk.specs.Universe.{store_parents}
use Rattle.walk.proofs.Files.{store_parents_length}
use Rattle.reach.specs.declared.seek.SeekError.{SeekError}
use Rattle.reach.specs.declared.seek.SeekError.TheVariants.{Unreadable, NoRoom}
use Rattle.reach.specs.Memory.{most_slots, has_bit, Lent, lent, Lists, Named, Spares, Told, NotesAll}
use Rattle.reach.specs.Seek.{ToldSought, Seeks, SeeksFrom}
use Rattle.reach.proofs.Growth.{grow-none, grow-more, root-reached}
use Rattle.reach.specs.Search.{reach_names}
use Rattle.reach.proofs.Closure.{links-named}
use Rattle.reach.proofs.MarkBits.{bit_0}
use Rattle.reach.proofs.Noting.{spares_then}

-- ---- from a list of roots

sought_after : (width : ℕ) (second : Bool) (cap from : ℕ) (w : World) (u roots : List Id) (m m₁ m' : Lent) (r : Result ℕ SeekError) → Spares width second cap from m m₁ → ToldSought width w u roots second cap from m₁ m' r
    → ToldSought width w u roots second cap from m m' r
sought_after width second cap from w u roots m m₁ m' (Ok n) a t =
    record { list = t.list; reached = t.reached; readable = t.readable; lists = t.lists; named = t.named; spares = spares_then a t.spares }
sought_after width second cap from w u roots m m₁ m' (Err Unreadable) a t = t
sought_after width second cap from w u roots m m₁ m' (Err NoRoom) a t = t

module _ {width : ℕ} {second : Bool} {cap from : ℕ} {m m₁ : Lent} {roots : List Id} {q : Option ℕ} (a : NotesAll width second cap from m m₁ (Some 0) roots q) where
  pub from-count : {s : List ℕ} {m' : Lent} {n : ℕ} {r : Result ℕ SeekError} → q ≡ Some n → Seeks width second cap from s m₁ m' n r → SeeksFrom width second cap from s m m' roots r
  from-count {s} {m'} {n} {r} e o = record {
    right = λ ok g u h d i p.
        let t = subst (λ (c : Option ℕ). Told width second cap from u m m₁ [] roots c) e (a.does u [] h d i) in
        sought_after width second cap from (world_of width s g) u roots m m₁ m' r t.spares
        (o.right ok g u roots t.list
        (record {
          lists = t.lists;
          named = t.named;
          growing = grow-more grow-none t.grows t.lists.once (λ x k. root-reached k);
          readable = record { each = λ j k. absurd (omega arith) };
          roots_in = t.grows.in_it;
          parents_in = p;
        }));
  }

  pub from-none : (s : List ℕ) → q ≡ None → SeeksFrom width second cap from s m m₁ roots (Err NoRoom)
  from-none s e = record { right = λ ok g u h d i p. subst (λ (c : Option ℕ). Told width second cap from u m m₁ [] roots c) e (a.does u [] h d i) }

-- ---- cleared memory

module _ {width : ℕ} {names marks : List ℕ} {cap : ℕ} (sized : Sized width names marks cap) where
  pub empty-lists : (second : Bool) (from : ℕ) (line : List ℕ) → from + cap ≤ length line → Lists width second cap from (lent names (cleared cap marks) line) 0 []
  empty-lists second from line h = record {
    table = cleared-table width false sized;
    room = h;
    count = refl;
    once = empty;
    slots = λ i k. absurd (omega arith);
    marked = λ x k. absurd (Memᴰ.not-nil k);
    all = λ x k. clash k (ap (has_bit second) (cleared-mark width false names marks cap x) ∙ bit_0 second);
  }

pub empty-named : (width : ℕ) (names marks line : List ℕ) (cap : ℕ) (u : List Id) → length u ≤ cap → cap ≤ most_slots → Named width cap u (lent names (cleared cap marks) line)
empty-named width names marks line cap u a b = record { few = a; small = b; inside = λ y k. absurd (k (cleared-mark width false names marks cap y)) }

-- "P": the roots and ⌊book bytes/48⌋
pub names-few : (width : ℕ) (s : List ℕ) (roots : List Id) → store_is_ok width s ≡ true → length (reach_names width s roots) ≤ length roots + length s / parent_size width
names-few width s roots ok = omega (arith, length-append roots (store_parents width s), store_parents_length width s ok)

pub roots-met : (width : ℕ) (s : List ℕ) (roots : List Id) (x : Id) → Mem x roots → Mem x (reach_names width s roots)
roots-met width s roots x m = Memᴰ.append_left (store_parents width s) m

pub parents-met : (width : ℕ) (s g : List ℕ) (roots : List Id) (x p : Id) → Mem p (links (world_of width s g) x) → Mem p (reach_names width s roots)
parents-met width s g roots x p m = Memᴰ.append_right roots (links-named width s g x p m)

-- ---- a second search

not-not : (b : Bool) → not (not b) ≡ b
not-not true = refl
not-not false = refl

module _ {width : ℕ} {second : Bool} {cap from : ℕ} {m m' : Lent} (s : Spares width second cap from m m') where
  -- nothing has its mark, as before the first
  pub other-empty : {n : ℕ} {l : List Id} (from' : ℕ) → Lists width second cap from m' n l → Lists width (not second) cap from' m 0 [] → from' + cap ≤ length m'.line → Lists width (not second) cap from' m' 0 []
  other-empty from' h a r = record {
    table = h.table;
    room = r;
    count = refl;
    once = empty;
    slots = λ i k. absurd (omega arith);
    marked = λ x k. absurd (Memᴰ.not-nil k);
    all = λ x k. a.all x (sym (s.other_bit x) ∙ k);
  }

  -- what the other search found before stays, where it stands below
  pub other-kept : {n n₀ : ℕ} {l l₀ : List Id} (from₀ : ℕ) → Lists width second cap from m' n l → Lists width (not second) cap from₀ m n₀ l₀ → from₀ + n₀ ≤ from → from₀ ≤ from → Lists width (not second) cap from₀ m' n₀ l₀
  other-kept {l₀ = l₀} from₀ h a b o = record {
    table = h.table;
    room = omega (arith, h.room);
    count = a.count;
    once = a.once;
    slots = λ i k.
        subst (λ (z : ℕ). Holds width false m'.names m'.marks cap (get_or l₀ i []) z) (sym (s.below (from₀ + i) (omega arith)))
        (s.stays (get_or l₀ i []) (get_or m.line (from₀ + i) 0) (a.slots i k));
    marked = λ x k. s.other_bit x ∙ a.marked x k;
    all = λ x k. a.all x (sym (s.other_bit x) ∙ k);
  }
