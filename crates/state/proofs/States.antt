-- What a state in lent memory tells: the slots that wait are live ones, they are as many as the model's queue has, one state is read and no
-- other, none from a closed record, and memory may change where nothing is read. Assumes nothing.
use mathlib.Core.Path.{◌≡◌, refl, sym, ap, ◌∙◌, subst}
use mathlib.Core.Logic.{⊎_elim}
use Prim.Native.Nat.{ℕ, suc, ◌+◌, ◌*◌, ◌≤◌, ◌<◌}
use mathlib.Core.Bool.{Bool, true, false, cond, not, ◌&&◌}
use mathlib.Core.List.{List, ◌∷◌, map}
use native.Mathlib.Omega.{arith}
use lib.ListN.{length, get_or, length-map}
use lib.IntN.{ℤ, pos}
use Rattle.hash.specs.Bytes.{Id}
use Rattle.hash.proofs.Tests.{clash, not_yes}
use Rattle.hashtable.specs.Marks.{seen, frontier, live}
use Rattle.hashtable.specs.Table.{id_of, live_at, Holds, Sized, Table, mark_for, has}
use Rattle.hashtable.proofs.MarksBits.{live-seen}
use Rattle.hashtable.proofs.TableKept.{Keeps, table_kept, holds-was, Agrees}
use Rattle.hashtable.proofs.TableView.{look, mark-held, mark-absent}
use Rattle.revwalk.specs.Order.{In}
use Rattle.revwalk.specs.Queue.{GoodQueue}
use Rattle.revwalk.proofs.QueueGood.{slots_length, good-size}
use Rattle.revwalk.proofs.QueueSlots.{slots-low, times-good, times-list, line-good, line-list}
use Rattle.walk.specs.State.{State}
use Rattle.state.specs.declared.Record.{Record}
use Rattle.state.specs.Reads.{Memory, Shape, memory_width, entry_of, waiting, Reads, closed_record}
use Rattle.state.proofs.Entries.{map_agree}

module _ {r : Record} {m : Memory} {sh : Shape} {st : State} (g : Reads r m sh st) where
  pub waits-low : (s : ℕ) → In s (waiting r m) → s < sh.cap
  waits-low s h = subst (λ (c : ℕ). s < c) g.cap (slots-low g.good s h)

  pub waits-live : (s : ℕ) → In s (waiting r m) → live_at r.painted m.marks s ≡ true
  waits-live s h = live-seen r.painted (get_or m.marks s 0) (g.waits-seen s h)

  -- ---- numbers
  pub waiting-length : length (waiting r m) ≡ r.queue.count
  waiting-length = slots_length r.queue m.times m.line

  pub queue-length : length st.queue ≡ r.queue.count
  queue-length = ap length g.queue ∙ length-map (waiting r m) (entry_of (memory_width sh) sh.timed m.names m.times) ∙ waiting-length

  pub count_low : r.queue.count ≤ sh.cap
  count_low = subst (λ (c : ℕ). r.queue.count ≤ c) g.cap (good-size g.good)

  -- where something waits, painting was not refused
  pub not-failed : (y : Id × ℤ) (l : List (Id × ℤ)) → st.queue ≡ y ∷ l → r.failed ≡ false
  not-failed y l e = not_yes (λ f.
      let p : length st.queue ≡ suc (length l) = ap length e in
      let q : length (waiting r m) ≡ 0 = ap length (g.failed-empty f) in
      omega (arith, queue-length, waiting-length))

-- ---- a closed record reads as no state

pub closed-never : {m : Memory} {sh : Shape} {st : State} → Reads closed_record m sh st → ⊥
unfolding closed_record
closed-never g = clash g.alive refl

-- ---- one state is read

pub one_state : {r : Record} {m : Memory} {sh : Shape} {st st' : State} → Reads r m sh st → Reads r m sh st' → st ≡ st'
one_state g h = λ k. record {
  queue = (g.queue ∙ sym h.queue) k;
  seen = λ x. (g.seen-is x ∙ sym (h.seen-is x)) k;
  frontier = λ x. (g.frontier-is x ∙ sym (h.frontier-is x)) k;
  painted = (g.painted ∙ sym h.painted) k;
  kept = (g.kept ∙ sym h.kept) k;
  admitted = (g.admitted ∙ sym h.admitted) k;
  struck = (g.struck ∙ sym h.struck) k;
}

-- ---- memory changes where nothing is read

-- from one table to another nothing changes that is read: no slot is emptied, the live slots are the same, with their ids, and whether they
-- are seen and in the frontier
pub record Likewise (w : ℕ) (painted : Bool) (names marks names' marks' : List ℕ) (cap : ℕ) : Type 0 where
  pub used : (k : ℕ) → k < cap → live_at false marks k ≡ true → live_at false marks' k ≡ true
  pub alive : (k : ℕ) → k < cap → live_at painted marks' k ≡ live_at painted marks k
  pub id : (k : ℕ) → k < cap → live_at painted marks k ≡ true → id_of w names' k ≡ id_of w names k
  pub seen_bit : (k : ℕ) → k < cap → live_at painted marks k ≡ true → seen (get_or marks' k 0) ≡ seen (get_or marks k 0)
  pub frontier_bit : (k : ℕ) → k < cap → live_at painted marks k ≡ true → frontier (get_or marks' k 0) ≡ frontier (get_or marks k 0)

module _ {w : ℕ} {painted : Bool} {names marks names' marks' : List ℕ} {cap : ℕ} (e : Likewise w painted names marks names' marks' cap) where
  likewise-keeps : Keeps w painted names marks painted names' marks' cap
  likewise-keeps = record { used = e.used; was = λ k l a. sym (e.alive k l) ∙ a; same = λ k l a. e.id k l (sym (e.alive k l) ∙ a) }

  likewise-holds : {x : Id} {k : ℕ} → Holds w painted names marks cap x k → Holds w painted names' marks' cap x k
  likewise-holds {x} {k} h = record { low = h.low; alive = e.alive k h.low ∙ h.alive; is = e.id k h.low h.alive ∙ h.is }

  likewise-has : (P : ℕ → Bool) → Table w painted names' marks' cap → ((k : ℕ) → k < cap → live_at painted marks k ≡ true → P (get_or marks' k 0) ≡ P (get_or marks k 0)) → (x : Id)
      → P (mark_for w painted names' marks' cap x) ≡ P (mark_for w painted names marks cap x)
  likewise-has P t same x =
      ⊎_elim
      (λ u. ap P (mark-held t u.slot (likewise-holds u.holds)) ∙ same u.slot u.holds.low u.holds.alive ∙ ap P (sym u.mark))
      (λ u. ap P (mark-absent (λ k h. u.0 k (holds-was likewise-keeps h)) ∙ sym u.1))
      (look w painted names marks cap x)

pub agrees_likewise : {w : ℕ} {painted : Bool} {names marks names' marks' : List ℕ} {cap : ℕ} → Agrees w painted names marks names' marks' cap → Likewise w painted names marks names' marks' cap
agrees_likewise {w} {painted} g = record {
  used = λ k l a. ap (live false) (g.mark k l) ∙ a;
  alive = λ k l. ap (live painted) (g.mark k l);
  id = g.id;
  seen_bit = λ k l a. ap seen (g.mark k l);
  frontier_bit = λ k l a. ap frontier (g.mark k l);
}

-- from m to m' nothing changes that is read: neither the table, nor the seconds of waiting slots, nor the line below 2 · cap
pub record Elsewhere (w : ℕ) (r : Record) (m m' : Memory) (cap : ℕ) : Type 0 where
  pub sized : Sized w m'.names m'.marks cap
  pub for_times : cap ≤ length m'.times
  pub for_line : 5 * cap ≤ length m'.line
  pub table : Likewise w r.painted m.names m.marks m'.names m'.marks cap
  pub times : (s : ℕ) → In s (waiting r m) → get_or m.times s (pos 0) ≡ get_or m'.times s (pos 0)
  pub line : (k : ℕ) → k < cap + cap → get_or m.line k 0 ≡ get_or m'.line k 0

module _ {r : Record} {m m' : Memory} {sh : Shape} {st : State} (g : Reads r m sh st) (e : Elsewhere (memory_width sh) r m m' sh.cap) where
  line_same : (k : ℕ) → k < r.queue.cap + r.queue.cap → get_or m.line k 0 ≡ get_or m'.line k 0
  line_same k h = e.line k (subst (λ (c : ℕ). k < c + c) g.cap h)

  good-times : GoodQueue r.queue m'.times m.line
  good-times = times-good r.queue m.times m'.times m.line e.times g.good

  pub elsewhere-waiting : waiting r m ≡ waiting r m'
  elsewhere-waiting = times-list r.queue m.times m'.times m.line e.times ∙ line-list good-times m'.line line_same

  entry-same : (s : ℕ) → In s (waiting r m) → entry_of (memory_width sh) sh.timed m.names m.times s ≡ entry_of (memory_width sh) sh.timed m'.names m'.times s
  entry-same s h =
      ap {B = Id × ℤ} (λ (x : Id). (x, cond sh.timed (get_or m.times s (pos 0)) (pos 0))) (sym (e.table.id s (waits-low g s h) (waits-live g s h)))
      ∙ ap {B = Id × ℤ} (λ (t : ℤ). (id_of (memory_width sh) m'.names s, cond sh.timed t (pos 0))) (e.times s h)

  table_same : Table (memory_width sh) r.painted m'.names m'.marks sh.cap
  table_same = table_kept e.sized (likewise-keeps e.table) g.table

  frontier-same : (x : Id) → (r.painted && not r.failed && has (memory_width sh) r.painted m.names m.marks sh.cap frontier x)
      ≡ (r.painted && not r.failed && has (memory_width sh) r.painted m'.names m'.marks sh.cap frontier x)
  frontier-same x = ap (λ (b : Bool). r.painted && not r.failed && b) (sym (likewise-has e.table frontier table_same e.table.frontier_bit x))

  only : r.painted ≡ false → (k : ℕ) → k < sh.cap → live_at false m'.marks k ≡ true → (seen (get_or m'.marks k 0) ≡ true) × (frontier (get_or m'.marks k 0) ≡ false)
  only p k l a =
      let b : live_at false m.marks k ≡ true = sym (subst (λ (c : Bool). live_at c m'.marks k ≡ live_at c m.marks k) p (e.table.alive k l)) ∙ a in
      let h : live_at r.painted m.marks k ≡ true = ap (λ (c : Bool). live_at c m.marks k) p ∙ b in
      let o = g.only_seen p k l b in
      (e.table.seen_bit k l h ∙ o.0, e.table.frontier_bit k l h ∙ o.1)

  pub elsewhere : Reads r m' sh st
  elsewhere = record {
    alive = g.alive;
    timed = g.timed;
    newest = g.newest;
    cap = g.cap;
    fixed = g.fixed;
    for_times = e.for_times;
    for_line = e.for_line;
    table = table_same;
    good = line-good good-times m'.line line_same (omega (arith, e.for_line, g.cap));
    queue = g.queue ∙ map_agree _ _ (waiting r m) entry-same ∙ ap (map (entry_of (memory_width sh) sh.timed m'.names m'.times)) elsewhere-waiting;
    waits-seen = λ s h. let i = subst (In s) (sym elsewhere-waiting) h in e.table.seen_bit s (waits-low g s i) (waits-live g s i) ∙ g.waits-seen s i;
    numbers = g.numbers;
    seen-is = λ x. g.seen-is x ∙ sym (likewise-has e.table seen table_same e.table.seen_bit x);
    frontier-is = λ x. g.frontier-is x ∙ frontier-same x;
    only_seen = only;
    failed-empty = λ f. sym elsewhere-waiting ∙ g.failed-empty f;
    painted = g.painted;
    kept = g.kept;
    admitted = g.admitted;
    struck = g.struck;
  }
