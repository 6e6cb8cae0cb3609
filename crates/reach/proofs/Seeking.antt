-- The search in lent memory: a commit is read and its parents are noted, until the line is read to its end. Assumes nothing.
use Rattle.object.specs.declared.HeaderError.{HeaderError}
use Rattle.std.specs.Prelude.{None, Option, Some, Result, Ok, Err, ok_or}
use mathlib.Core.Path.{◌≡◌, sym, ◌∙◌, ap, subst}
use Prim.Native.Nat.{ℕ, suc, ◌+◌, ◌≤◌, ◌<◌}
use mathlib.Core.Bool.{Bool, true}
use mathlib.Core.List.{List, []}
use native.Mathlib.Omega.{arith}
use lib.ListN.{length, get_or}
use Rattle.hash.specs.Bytes.{Id}
use Rattle.date.specs.declared.Stamp.{Stamp}
use Rattle.object.specs.Header.{header}
use Rattle.object.specs.Read.{reading_of, readable_as}
use Rattle.odb.specs.Store.{store_is_ok}
use Rattle.hashtable.specs.Table.{id_of}
use Rattle.walk.specs.Lookup.{World, world_of}
use Rattle.walk.specs.Reach.{Mem, links}
use Rattle.walk.specs.Demand.{Readable}
use Rattle.reading.specs.Stored.{GivesBody}
use Rattle.reading.proofs.StoredBodies.{stored-good, stored-links, stored-readable, stored-err}
use Rattle.reach.specs.declared.seek.SeekError.{SeekError}
use Rattle.reach.specs.declared.seek.SeekError.TheVariants.{Unreadable, NoRoom}
use Rattle.reading.proofs.IdLists.{mem-at}
use Rattle.reach.specs.Search.{ReachedBy, Growing}
use Rattle.reach.specs.Memory.{Lent, Told, NotesParents}
use Rattle.reach.specs.Seek.{Seeking, GoesOn, ToldStep, ToldSought, Reads, Seeks}
use Rattle.reach.proofs.Growth.{grow-more, readable-more, reached-on, grow-read, grow-done, grow-readable, readable-read}
use Rattle.reach.proofs.Noting.{spares-none, spares_then, listed-few, Long, long-none, long-then}

-- ---- one commit

pub body_at : {width : ℕ} {s : List ℕ} {x y : Id} {b : List ℕ} → x ≡ y → GivesBody width s x b → GivesBody width s y b
body_at {width} {s} {b = b} e f = subst (λ (z : Id). GivesBody width s z b) e f

-- the body in hand is that of place k
in_hand : {width : ℕ} {w : World} {u roots : List Id} {second : Bool} {cap from : ℕ} {s : List ℕ} {m : Lent} {n : ℕ} {l : List Id} {k slot : ℕ} {b : List ℕ} → Seeking width w u roots second cap from m n l k → k < n
    → slot ≡ get_or m.line (from + k) 0 → GivesBody width s (id_of width m.names slot) b → GivesBody width s (get_or l k []) b
in_hand {width} {m = m} {k = k} v h e f = body_at (ap (id_of width m.names) e ∙ (v.lists.slots k h).is) f

module _ (width : ℕ) (second : Bool) (cap from : ℕ) {s : List ℕ} (m : Lent) (n k : ℕ) {slot : ℕ} {b : List ℕ} (e : slot ≡ get_or m.line (from + k) 0)
    (f : GivesBody width s (id_of width m.names slot) b) where
  -- the commit is reached, and it is not readable
  stuck : ((x : Id) → GivesBody width s x b → store_is_ok width s ≡ true → (g : List ℕ) → Readable (world_of width s g) x → ⊥) → Reads width second cap from s m m n k (Err Unreadable)
  stuck bars = record {
    right = λ ok g u roots l v h. record {
      commit = get_or l k [];
      reached = v.growing.sound (get_or l k []) (mem-at l k (omega (arith, v.lists.count)));
      unreadable = bars (get_or l k []) (in_hand v h e f) ok g;
    };
  }

  pub read-err : (r : HeaderError) → reading_of (header width b) ≡ Err r → Reads width second cap from s m m n k (Err Unreadable)
  read-err r d = stuck (λ x i ok g. stored-err i ok g r d)

  module _ (c : ℕ) (t : Stamp) (d : reading_of (header width b) ≡ readable_as c t) where
    read_told : (m' : Lent) (g : List ℕ) (u roots l : List Id) → store_is_ok width s ≡ true → (v : Seeking width (world_of width s g) u roots second cap from m n l k) → k < n → (r : Option ℕ)
        → Told width second cap from u m m' l (header width b).ids r → ToldStep width (world_of width s g) u roots second cap from m m' (suc k) (ok_or r NoRoom)
    read_told m' g u roots l ok v h (Some n') o =
        let w = world_of width s g in
        let i = in_hand v h e f in
        let p : links w (get_or l k []) ≡ (header width b).ids = stored-links i ok g c t d in
        let rk : ReachedBy w roots (get_or l k []) = v.growing.sound (get_or l k []) (mem-at l k (omega (arith, v.lists.count))) in
        let gr : Growing w roots o.list k = grow-more v.growing o.grows o.lists.once (λ x j. reached-on rk (subst (λ (z : List Id). Mem x z) (sym p) j)) in
        let at : get_or o.list k [] ≡ get_or l k [] = o.grows.place k (omega (arith, v.lists.count)) in
        let lt : k < length o.list = omega (arith, o.grows.long, v.lists.count) in
        record {
          list = o.list;
          seeking = record {
            lists = o.lists;
            named = o.named;
            growing = grow-read gr lt (λ x j. o.grows.in_it x (subst (λ (z : List Id). Mem x z) p (subst (λ (z : Id). Mem x (links w z)) at j)));
            readable = readable-read (readable-more v.readable v.growing.read o.grows) (subst (Readable w) (sym at) (stored-readable i ok g c t d));
            roots_in = λ x j. o.grows.keeps x (v.roots_in x j);
            parents_in = v.parents_in;
          };
          spares = o.spares;
        }
    read_told m' g u roots l ok v h None o = o

    pub read-noted : {m' : Lent} {r : Option ℕ} {a : Result ℕ SeekError} → NotesParents width second cap from (header width b) m m' n c r → a ≡ ok_or r NoRoom → Reads width second cap from s m m' n k a
    read-noted {m'} {r} {a} p z = record {
      right = λ ok g u roots l v h.
          let i = in_hand v h e f in
          let q = stored-good i ok g c t d in
          subst (λ (x : Result ℕ SeekError). ToldStep width (world_of width s g) u roots second cap from m m' (suc k) x) (sym z)
          (read_told m' g u roots l ok v h r
          (p.right q.tree q.count u l v.lists v.named (λ x j. v.parents_in (get_or l k []) x (subst (λ (y : List Id). Mem x y) (sym (stored-links i ok g c t d)) j))));
    }

-- ---- the loop

pub record Looping (width : ℕ) (second : Bool) (cap from : ℕ) (s : List ℕ) (m₀ m : Lent) (n₀ n k : ℕ) : Type 0 where
  pub long : Long m₀ m
  pub so_far : store_is_ok width s ≡ true → (g : List ℕ) (u roots l : List Id) → Seeking width (world_of width s g) u roots second cap from m₀ n₀ l 0 → GoesOn width (world_of width s g) u roots second cap from m₀ m n k

pub loop_first : (width : ℕ) (second : Bool) (cap from : ℕ) (s : List ℕ) (m : Lent) (n : ℕ) → Looping width second cap from s m m n n 0
loop_first width second cap from s m n = record { long = long-none m; so_far = λ ok g u roots l v. record { list = l; seeking = v; spares = spares-none width second cap from m } }

-- why a commit is not read is why the search stops short
short-told : (width : ℕ) (w : World) (u roots : List Id) (second : Bool) (cap from : ℕ) (m₀ m m' : Lent) (k : ℕ) (x : SeekError) → ToldStep width w u roots second cap from m m' k (Err x)
    → ToldSought width w u roots second cap from m₀ m' (Err x)
short-told width w u roots second cap from m₀ m m' k Unreadable t = t
short-told width w u roots second cap from m₀ m m' k NoRoom t = t

module _ {width : ℕ} {second : Bool} {cap from : ℕ} {s : List ℕ} {m₀ m : Lent} {n₀ n k : ℕ} (v : Looping width second cap from s m₀ m n₀ n k) where
  pub loop_next : {m' : Lent} {n' : ℕ} {r : Result ℕ SeekError} → k < n → Long m m' → Reads width second cap from s m m' n k r → r ≡ Ok n' → Looping width second cap from s m₀ m' n₀ n' (k + 1)
  loop_next {m'} {n'} {r} h b o e = record {
    long = long-then v.long b;
    so_far = λ ok g u roots l z.
        let a = v.so_far ok g u roots l z in
        let t = subst (λ (c : Result ℕ SeekError). ToldStep width (world_of width s g) u roots second cap from m m' (suc k) c) e (o.right ok g u roots a.list a.seeking h) in
        let q : suc k ≡ k + 1 = omega arith in
        record { list = t.list; seeking = subst (λ (i : ℕ). Seeking width (world_of width s g) u roots second cap from m' n' t.list i) q t.seeking; spares = spares_then a.spares t.spares };
  }

  pub loop-short : {m' : Lent} {r : Result ℕ SeekError} {x : SeekError} → k < n → Reads width second cap from s m m' n k r → r ≡ Err x → Seeks width second cap from s m₀ m' n₀ (Err x)
  loop-short {m'} {r} {x} h o e = record {
    right = λ ok g u roots l z.
        let a = v.so_far ok g u roots l z in
        short-told width (world_of width s g) u roots second cap from m₀ m m' (suc k) x (subst (λ (c : Result ℕ SeekError). ToldStep width (world_of width s g) u roots second cap from m m' (suc k) c) e (o.right ok g u roots a.list a.seeking h));
  }

  -- the line never has more slots than there are
  pub loop-over : k < n → cap ≤ k → Seeks width second cap from s m₀ m n₀ (Err NoRoom)
  loop-over h c = record { right = λ ok g u roots l z. let a = v.so_far ok g u roots l z in absurd (omega (arith, listed-few a.seeking.lists a.seeking.named)) }

  pub loop-last : n ≤ k → Seeks width second cap from s m₀ m n₀ (Ok n)
  loop-last h = record {
    right = λ ok g u roots l z.
        let a = v.so_far ok g u roots l z in
        let c = a.seeking in
        let e : length a.list ≤ k = omega (arith, c.lists.count) in
        let d = grow-done c.growing e c.roots_in in
        record { list = a.list; reached = d; readable = grow-readable c.readable e d; lists = c.lists; named = c.named; spares = a.spares };
  }
