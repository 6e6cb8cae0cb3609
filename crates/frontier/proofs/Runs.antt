-- The commits in the slots of a part of the line get marks. The part lies below the queue's memory, and painting changes neither it nor
-- the ids in slots that are taken: so each slot still has the id that it had at first. Assumes nothing.
use Rattle.std.specs.Prelude.{Option, Ok, Err}
use Rattle.commitgraph.specs.declared.Layout.{Layout}
use mathlib.Core.Path.{◌≡◌, refl, sym, ◌∙◌, ap, subst}
use mathlib.Core.Logic.{inl, inr}
use mathlib.Core.Bool.{false}
use Prim.Native.Nat.{ℕ, zero, suc, ◌+◌, ◌-◌, ◌≤◌, ◌<◌}
use mathlib.Core.List.{List, [], ◌∷◌, map}
use native.Mathlib.Omega.{arith}
use lib.ListN.{length, take, get_or, length-map}
use lib.Seq.{slice, length-slice, get_or-take, get_or-drop}
use Rattle.hash.specs.Bytes.{Id}
use Rattle.hashtable.specs.Table.{id_of, Table}
use Rattle.hashtable.proofs.TableIds.{width_of_lem}
use Rattle.revwalk.specs.Order.{In}
use Rattle.pending.specs.declared.Pending.{Pending}
use Rattle.pending.proofs.Laws.{getD-below}
use Rattle.walk.specs.Painting.{mark, mark_all}
use Rattle.reading.specs.Files.{world_under}
use Rattle.object.specs.Ids.{id_room, padded, id_in}
use Rattle.object.proofs.IdBytes.{id_in_lem}
use Rattle.frontier.specs.declared.marking.MarkError.{MarkError}
use Rattle.frontier.specs.Paint.{Marked, Lent, Files, Spares}
use Rattle.frontier.specs.Mark.{Takes}
use Rattle.frontier.specs.Lists.{ids_in, RunBelow, MarksRun}
use Rattle.frontier.proofs.Steps.{Upto, Long, long-none, long-then, upto_first, next-going, upto_stop, upto_last, mark_all_nil, mark_all_snoc}

pub get_d_map : {A B : Type 0} (f : A → B) (l : List A) (i : ℕ) (d : A) (e : B) → i < length l → get_or (map f l) i e ≡ f (get_or l i d)
get_d_map f [] i d e h = absurd (omega arith)
get_d_map f (x ∷ l) zero d e h = refl
get_d_map f (x ∷ l) (suc i) d e h = get_d_map f l i d e (omega arith)

pub in_at : (l : List ℕ) (i : ℕ) → i < length l → In (get_or l i 0) l
unfolding In
in_at [] i h = absurd (omega arith)
in_at (x ∷ l) zero h = inl refl
in_at (x ∷ l) (suc i) h = inr (in_at l i (omega arith))

pub slice_at : (line : List ℕ) (from n i : ℕ) → i < n → get_or (slice from (from + n) line) i 0 ≡ get_or line (from + i) 0
slice_at line from n i h = get_or-drop from (take (from + n) line) i 0 ∙ get_or-take (from + n) line (from + i) 0 (omega arith)

pub run_length : (m : Lent) (from n : ℕ) → from + n ≤ length m.line → length (slice from (from + n) m.line) ≡ n
run_length m from n h = let e : from + n - from ≡ n = omega arith in length-slice from (from + n) m.line h ∙ e

ids_length : (width : ℕ) (m : Lent) (from n : ℕ) → from + n ≤ length m.line → length (ids_in width m from n) ≡ n
ids_length width m from n h = length-map (slice from (from + n) m.line) (id_of width m.names) ∙ run_length m from n h

-- the id in slot i of the part, in memory that painting has come to
run_id : {width : ℕ} {cap : ℕ} {m₀ m : Lent} {p : Pending} {from n i : ℕ} {x : Id} {slot : ℕ} → width ≤ id_room → RunBelow cap m₀ p from n → Table width false m₀.names m₀.marks cap → Spares width cap p.base m₀ m → i < n
    → slot ≡ get_or m.line (from + i) 0 → x ≡ id_in width (padded (id_of width m.names slot)) → x ≡ get_or (ids_in width m₀ from n) i []
run_id {width} {cap} {m₀} {m} {p} {from} {n} {i} {x} {slot} small b t k l e d =
    let long = run_length m₀ from n b.inside in
    let z : ℕ = get_or (slice from (from + n) m₀.line) i 0 in
    let j : slot ≡ get_or (slice from (from + n) m₀.line) i 0 =
    e ∙ getD-below m₀.line m.line p.base k.below (from + i) (omega (arith, b.fits)) ∙ sym (slice_at m₀.line from n i l) in
    let a = b.taken (get_or (slice from (from + n) m₀.line) i 0) (in_at (slice from (from + n) m₀.line) i (omega (arith, long))) in
    let q : id_of width m.names slot ≡ id_of width m₀.names (get_or (slice from (from + n) m₀.line) i 0) = ap (id_of width m.names) j ∙ (k.taken (get_or (slice from (from + n) m₀.line) i 0) a.0 a.1).1 in
    d
    ∙ ap (λ (v : Id). id_in width (padded v)) q
    ∙ id_in_lem width (id_of width m₀.names (get_or (slice from (from + n) m₀.line) i 0)) (width_of_lem (get_or (slice from (from + n) m₀.line) i 0) t.sized a.0) small
    ∙ sym (get_d_map (id_of width m₀.names) (slice from (from + n) m₀.line) i 0 [] (omega (arith, long)))

-- a loop over the part, after i of n slots
pub record Running (width : ℕ) (c : Option Layout) (g s : List ℕ) (cap : ℕ) (m₀ m : Lent) (p : Pending) (from n bits i : ℕ) (q : Pending) : Type 0 where
  pub long : Long m₀ m
  pub begun : Files width c g s → RunBelow cap m₀ p from n → Upto width mark_all (world_under width c g s) cap m₀ m p (ids_in width m₀ from n) bits i (Ok q)

pub running_first : (width : ℕ) (c : Option Layout) (g s : List ℕ) (cap : ℕ) (m : Lent) (p : Pending) (from n bits : ℕ) → Running width c g s cap m m p from n bits 0 p
running_first width c g s cap m p from n bits = record {
  long = long-none m;
  begun = λ f b. upto_first width mark mark_all mark_all_nil mark_all_snoc (world_under width c g s) cap m p (ids_in width m from n) bits;
}

module _ {width : ℕ} {c : Option Layout} {g s : List ℕ} {cap : ℕ} {m₀ m : Lent} {p : Pending} {from n bits i : ℕ} {q : Pending} (v : Running width c g s cap m₀ m p from n bits i q) where
  run-one : {m' : Lent} {r : Marked} {x : Id} (slot : ℕ) → i < n → slot ≡ get_or m.line (from + i) 0 → x ≡ id_in width (padded (id_of width m.names slot)) → length x ≡ width → Takes width mark c g s cap m m' q x bits r
      → Files width c g s → RunBelow cap m₀ p from n → Upto width mark_all (world_under width c g s) cap m₀ m' p (ids_in width m₀ from n) bits (i + 1) r
  run-one slot l e d wd o f k =
      next-going width mark mark_all mark_all_nil mark_all_snoc f (omega (arith, ids_length width m₀ from n k.inside)) wd (λ u st t h gone. run_id f.small k h.reads.table gone.spares l e d) q (v.begun f k) o

  pub running_next : {m' : Lent} {q' : Pending} {x : Id} (slot : ℕ) → i < n → slot ≡ get_or m.line (from + i) 0 → x ≡ id_in width (padded (id_of width m.names slot)) → length x ≡ width → Long m m'
      → Takes width mark c g s cap m m' q x bits (Ok q') → Running width c g s cap m₀ m' p from n bits (i + 1) q'
  running_next slot l e d wd b o = record { long = long-then v.long b; begun = run-one slot l e d wd o }

  pub running_stop : {m' : Lent} {e : MarkError} {x : Id} (slot : ℕ) → i < n → slot ≡ get_or m.line (from + i) 0 → x ≡ id_in width (padded (id_of width m.names slot)) → length x ≡ width
      → Takes width mark c g s cap m m' q x bits (Err e) → MarksRun width c g s cap m₀ m' p from n bits (Err e)
  running_stop {e = e} slot l a d wd o = record {
    right = λ f u st k h. upto_stop width mark mark_all mark_all_nil mark_all_snoc e (run-one slot l a d wd o f k) (omega (arith, ids_length width m₀ from n k.inside)) u st h;
  }

  pub running_last : n ≤ i → MarksRun width c g s cap m₀ m p from n bits (Ok q)
  running_last l = record {
    right = λ f u st k h. upto_last width mark mark_all mark_all_nil mark_all_snoc (v.begun f k) (omega (arith, ids_length width m₀ from n k.inside)) u st h;
  }
