-- The answers on the way to one commit's marks, put together: what was read, what the table says, and what the queue says. Assumes nothing.
use Rattle.std.specs.Option.{ok_or}
use Rattle.std.specs.Prelude.{Option, Some, None, Ok, Err}
use Rattle.commitgraph.specs.declared.Layout.{Layout}
use mathlib.Core.Path.{◌≡◌, refl, sym, subst}
use mathlib.Core.Logic.{inl, inr}
use Prim.Native.Nat.{ℕ, ◌≤◌}
use mathlib.Core.Bool.{true, false}
use mathlib.Core.List.{List}
use lib.IntN.{ℤ}
use lib.ListN.{get_or, set}
use Rattle.hash.specs.Bytes.{Id}
use Rattle.hashtable.specs.Table.{Table}
use Rattle.pending.specs.Pending.{Pushes}
use Rattle.pending.specs.declared.Pending.{Pending}
use Rattle.walk.specs.Lookup.{read, pair_of}
use Rattle.walk.specs.Painting.{Paint, mark}
use Rattle.walk.specs.declared.GenThenTime.{GenThenTime}
use Rattle.walk.specs.declared.Refusal.{Refusal}
use Rattle.reading.specs.Files.{world_under}
use Rattle.reading.specs.Whole.{Has, Tells, ReadsCommit}
use Rattle.reading.proofs.Whole.{commit-right}
use Rattle.reading.specs.declared.Commit.{Commit}
use Rattle.reading.specs.declared.Commit.TheVariants.{Row, Body, Failed}
use Rattle.frontier.specs.declared.slots.Added.{Added}
use Rattle.frontier.specs.declared.slots.Added.TheVariants.{New, Known, Full}
use Rattle.frontier.specs.declared.marking.MarkError.{MarkError}
use Rattle.frontier.specs.declared.marking.MarkError.TheVariants.{Stop, NoRoom}
use Rattle.frontier.specs.Bits.{is_painted, marks_of}
use Rattle.frontier.specs.Slots.{most_slots, Gained, ToldAdded, AddsMark}
use Rattle.frontier.specs.Paint.{Marked, lent, Files, Ends}
use Rattle.frontier.specs.Mark.{Spot, ToldLearned, Learns, Paired, ToldPlaced, Places, Queues, MayStep, Takes}
use Rattle.frontier.proofs.MarkStep.{has-slot, stops-here, has_room, goes-here}

-- ---- a commit is read

module _ {width : ℕ} {c : Option Layout} {g s : List ℕ} {x : Id} {d : Commit} (r : ReadsCommit width c g s x d) where
  told : {e : Commit} → d ≡ e → Files width c g s → Tells e (read (world_under width c g s) x)
  told q f = subst (λ (e : Commit). Tells e (read (world_under width c g s) x)) q (commit-right r f.store_ok f.graph-ok).tells

  module _ {levels levels' : List ℕ} {times times' : List ℤ} {k : ℕ} where
    learned : {n : ℕ} (q : GenThenTime) → (Files width c g s → Has n q (read (world_under width c g s) x)) → levels' ≡ set levels k q.generation.0 → times' ≡ set times k q.time.0
        → Learns width c g s levels times levels' times' x k (Ok k)
    learned q h a b = record { right = λ f. (refl, record { parents = (h f).parents; pair = pair_of q; is = (h f).is; level_set = a; time_set = b }) }

    pub learned-row : (p n : ℕ) (q : GenThenTime) → d ≡ Row p n q → levels' ≡ set levels k q.generation.0 → times' ≡ set times k q.time.0
        → Learns width c g s levels times levels' times' x k (Ok k)
    learned-row p n q e = learned q (told e)

    pub learned-body : (a z n : ℕ) (q : GenThenTime) → d ≡ Body a z n q → levels' ≡ set levels k q.generation.0 → times' ≡ set times k q.time.0
        → Learns width c g s levels times levels' times' x k (Ok k)
    learned-body a z n q e = learned q (told e)

    pub not-learned : (n : Refusal) → d ≡ Failed n → Learns width c g s levels times levels' times' x k (Err (Stop n))
    not-learned n e = record { right = told e }

-- ---- an id gains marks

module _ {width : ℕ} {names marks names' marks' : List ℕ} {cap : ℕ} {x : Id} {bits : ℕ} {a : Added} (w : AddsMark width names marks names' marks' cap x bits a) where
  added : {b : Added} → a ≡ b → Table width false names marks cap → is_painted bits ≡ true → cap ≤ most_slots → ToldAdded width names marks names' marks' cap x bits b
  added e t b l = subst (λ (d : Added). ToldAdded width names marks names' marks' cap x bits d) e (w.right t b l)

  module _ {c : Option Layout} {g s levels : List ℕ} {times : List ℤ} where
    pub place-new : {levels' : List ℕ} {times' : List ℤ} {r : Spot} (k : ℕ) → a ≡ New k → Learns width c g s levels times levels' times' x k r
        → Places width c g s names marks levels times names' marks' levels' times' cap x bits r
    place-new {levels'} {times'} {r} k e l = record { right = λ f t b z. go r (added e t b z) (l.right f) }
      where
        go : (r : Spot) → Gained width names marks names' marks' cap x bits k × (is_painted (get_or marks k 0) ≡ false) → ToldLearned (world_under width c g s) levels times levels' times' x k r
            → ToldPlaced width (world_under width c g s) names marks levels times names' marks' levels' times' cap x bits r
        go (Ok j) o h =
            subst (λ (i : ℕ). Gained width names marks names' marks' cap x bits i × Paired (world_under width c g s) marks levels times levels' times' x i) (sym h.0) (o.0, inr (o.1, h.1))
        go (Err (Stop n)) o h = (h, (k, o.0))
        go (Err NoRoom) o h = absurd h

    pub place-known : (k : ℕ) → a ≡ Known k → Places width c g s names marks levels times names' marks' levels times cap x bits (Ok k)
    place-known k e = record { right = λ f t b z. let o = added e t b z in (o.0, inl (o.1, refl, refl)) }

    pub place-full : a ≡ Full → Places width c g s names marks levels times names' marks' levels times cap x bits (Err NoRoom)
    place-full e = record { right = λ f t b z. added e t b z }

-- ---- its slot is queued

module _ {levels : List ℕ} {times : List ℤ} {slot : ℕ} {p : Pending} {line line' : List ℕ} where
  was-queued : {q : Pending} → Pushes levels times slot p line (Some q) line' → Queues levels times slot p line line' (Ok q)
  was-queued {q} w = record { long = w.long; below = w.below; room = λ r. (q, refl, w.entered.1) }

  not-queued : Pushes levels times slot p line None line' → Queues levels times slot p line line' (Err NoRoom)
  not-queued w = record { long = w.long; below = w.below; room = λ r. absurd (w.entered.0 r) }

  pub queue-told : {a : Marked} (r : Option Pending) → Pushes levels times slot p line r line' → a ≡ ok_or r NoRoom → Queues levels times slot p line line' a
  queue-told (Some q) w e = subst (Queues levels times slot p line line') (sym e) (was-queued w)
  queue-told None w e = subst (Queues levels times slot p line line') (sym e) (not-queued w)

-- ---- all of it

module _ {width : ℕ} {c : Option Layout} {g s names marks levels : List ℕ} {times : List ℤ} {names' marks' levels' : List ℕ} {times' : List ℤ} {cap : ℕ} {x : Id} {bits : ℕ} {d : Spot}
    (w : Places width c g s names marks levels times names' marks' levels' times' cap x bits d) {line : List ℕ} {p : Pending} where
  placed : {e : Spot} → d ≡ e → Files width c g s → (u : List Id) (st : Paint) → MayStep width (world_under width c g s) cap u (lent names marks levels times line) p x bits st (mark (world_under width c g s) (marks_of bits) x st)
      → ToldPlaced width (world_under width c g s) names marks levels times names' marks' levels' times' cap x bits e
  placed q f u st h =
      subst (λ (e : Spot). ToldPlaced width (world_under width c g s) names marks levels times names' marks' levels' times' cap x bits e) q
      (w.right f h.reads.table h.some-mark h.named.small)

  pub marks-at : {line' : List ℕ} {r : Marked} (k : ℕ) → d ≡ Ok k → Queues levels' times' k p line line' r
      → Takes width mark c g s cap (lent names marks levels times line) (lent names' marks' levels' times' line') p x bits r
  marks-at {line'} {r} k q v = record {
    right = λ f u st h.
        let o = placed q f u st h in
        let e = v.room (has_room h o.0 o.1) in
        subst
        (λ (a : Marked). Ends width (world_under width c g s) cap u p (lent names marks levels times line) (lent names' marks' levels' times' line') a (mark (world_under width c g s) (marks_of bits) x st))
        (sym e.1) (goes-here h o.0 o.1 e.2 v.below);
  }

  marks-unread : (n : Refusal) → d ≡ Err (Stop n) → Takes width mark c g s cap (lent names marks levels times line) (lent names' marks' levels' times' line) p x bits (Err (Stop n))
  marks-unread n q = record { right = λ f u st h. let o = placed q f u st h in stops-here h o.0 o.1.1 }

  marks-none : d ≡ Err NoRoom → Takes width mark c g s cap (lent names marks levels times line) (lent names' marks' levels' times' line) p x bits (Err NoRoom)
  marks-none q = record { right = λ f u st h. has-slot h (placed q f u st h) }

  pub marks-not : (e : MarkError) → d ≡ Err e → Takes width mark c g s cap (lent names marks levels times line) (lent names' marks' levels' times' line) p x bits (Err e)
  marks-not (Stop n) q = marks-unread n q
  marks-not NoRoom q = marks-none q
