-- The pass along the line: a commit is not readable, or the file is at odds with it, or it is taken; until the line is read to its end. Assumes nothing.
use Rattle.object.specs.declared.HeaderError.{HeaderError}
use Rattle.std.specs.Prelude.{Option, None, Some, Result, Ok, Err}
use Rattle.commitgraph.specs.declared.Layout.{Layout}
use mathlib.Core.Path.{◌≡◌, refl, ◌∙◌, ap, subst}
use Prim.Native.Nat.{ℕ, suc, ◌+◌, ◌≤◌, ◌<◌}
use mathlib.Core.Bool.{true, false}
use mathlib.Core.List.{List, []}
use native.Mathlib.Omega.{arith}
use lib.ListN.{length, get_or}
use lib.IntN.{ℤ}
use Rattle.hash.specs.Bytes.{Id}
use Rattle.date.specs.declared.Stamp.{Stamp}
use Rattle.object.specs.Header.{header}
use Rattle.object.specs.Read.{reading_of, readable_as}
use Rattle.odb.specs.Store.{store_is_ok}
use Rattle.hashtable.specs.Table.{id_of}
use Rattle.walk.specs.declared.GenThenTime.{GenThenTime}
use Rattle.walk.specs.Lookup.{World, world_of, pair_of}
use Rattle.walk.specs.Demand.{Readable}
use Rattle.reading.specs.Stored.{GivesBody}
use Rattle.reading.proofs.IdLists.{mem-at}
use Rattle.reading.proofs.StoredBodies.{stored-good, stored-links, stored-readable, stored-err}
use Rattle.reach.specs.Memory.{Lent}
use Rattle.reach.specs.Seek.{Seeking}
use Rattle.reach.proofs.Seeking.{body_at}
use Rattle.reach.proofs.Noting.{listed-few, Long, long-none, long-then}
use Rattle.judging.specs.Judge.{agreeing, Files, ToldJudged, Judges}
use Rattle.judging.specs.declared.Judged.{Judged}
use Rattle.tested.specs.declared.step.StepError.{StepError}
use Rattle.tested.specs.declared.step.StepError.TheVariants.{Unreadable, AtOdds, NoRoom}
use Rattle.tested.specs.Passes.{Held, slot_at, Going, GoesOn, Takes, ToldStep, Steps, StepsIn, StepsRead, Goes}

-- ---- one commit

-- a search may begin again with what it has met
again : {width : ℕ} {w : World} {u roots : List Id} {cap from : ℕ} {m : Lent} {n : ℕ} {l : List Id} {k : ℕ} → Seeking width w u roots false cap from m n l k → Seeking width w u roots false cap from m n l 0
again v = record {
  lists = v.lists;
  named = v.named;
  growing = record { once = v.growing.once; sound = v.growing.sound; read = omega arith; closed = λ i h. absurd (omega arith) };
  readable = record { each = λ i h. absurd (omega arith) };
  roots_in = v.roots_in;
  parents_in = v.parents_in;
}

-- the commit in the slot of place k is that of the list
its_id : {width : ℕ} {w : World} {u roots : List Id} {cap from : ℕ} (m : Held) {n : ℕ} {l : List Id} (k : ℕ) {slot : ℕ} → slot ≡ slot_at from m k → Going width w u roots cap from m n l k → k < n → id_of width m.lent.names slot ≡ get_or l k []
its_id {width} m k e v h = ap (id_of width m.lent.names) e ∙ (v.seeking.lists.slots k h).is

module _ (width : ℕ) (ca : Option Layout) (g : List ℕ) {s : List ℕ} (cap from : ℕ) (m : Held) (n : ℕ) {slot : ℕ} {b : List ℕ} where
  module _ (f : GivesBody width s (id_of width m.lent.names slot) b) where
    -- the commit is reached, and it is not readable
    stuck : ((x : Id) → GivesBody width s x b → store_is_ok width s ≡ true → Readable (world_of width s g) x → ⊥) → StepsIn width ca g s cap from m m n slot (Err Unreadable)
    stuck bars = record {
      right = λ k e. record {
        right = λ fs u roots l v h. record {
          commit = get_or l k [];
          reached = v.seeking.growing.sound (get_or l k []) (mem-at l k (omega (arith, v.seeking.lists.count)));
          unreadable = bars (get_or l k []) (body_at (its_id m k e v h) f) fs.store;
        };
      };
    }

    pub step-err : (r : HeaderError) → reading_of (header width b) ≡ Err r → StepsIn width ca g s cap from m m n slot (Err Unreadable)
    step-err r d = stuck (λ x i ok. stored-err i ok g r d)

  module _ (c : ℕ) (seconds : ℤ) {j : Option Judged} (o : Judges width ca g s (id_of width m.lent.names slot) b c seconds j) where
    module _ (a : Option Judged) (i : j ≡ a) (f : GivesBody width s (id_of width m.lent.names slot) b) (t : Stamp) (d : reading_of (header width b) ≡ readable_as c t) (q : seconds ≡ t.seconds.0) where
      told : (k : ℕ) → slot ≡ slot_at from m k → Files width ca g s → {u roots l : List Id} → Going width (world_of width s g) u roots cap from m n l k → k < n → ToldJudged (world_of width s g) (get_or l k []) a
      told k e fs v h = subst (λ (x : Id). ToldJudged (world_of width s g) x a) (its_id m k e v h) (subst (ToldJudged (world_of width s g) (id_of width m.lent.names slot)) i (o.right fs f t d q))

    pub step-odd : j ≡ None → StepsRead width ca g s cap from m m n slot b c seconds (Err (AtOdds n))
    step-odd i = record {
      right = λ f t d q. record {
        right = λ k e. record {
          right = λ fs u roots l v h. record {
            commit = get_or l k [];
            reached = v.seeking.growing.sound (get_or l k []) (mem-at l k (omega (arith, v.seeking.lists.count)));
            odd = told None i f t d q k e fs v h;
            list = l;
            seeking = again v.seeking;
          };
        };
      };
    }

    pub step-taken : (p : ℕ) (pair : GenThenTime) {m' : Held} {r : Result ℕ StepError} → j ≡ Some (agreeing p pair) → Takes width cap from m m' n slot (pair_of pair) (header width b) c r → StepsRead width ca g s cap from m m' n slot b c seconds r
    step-taken p pair i tk = record {
      right = λ f t d q. record {
        right = λ k e. record {
          right = λ fs u roots l v h.
              let gb = body_at (its_id m k e v h) f in
              let y = told (Some (agreeing p pair)) i f t d q k e fs v h in
              let gh = stored-good gb fs.store g c t d in
              tk.right (world_of width s g) u roots l k v h
              (record {
                slot_is = e;
                tree = gh.tree;
                count = gh.count;
                links_are = stored-links gb fs.store g c t d;
                readable = stored-readable gb fs.store g c t d;
                agrees = y.0;
                pair = y.1;
              });
        };
      };
    }

-- ---- the loop

pub record Along (width : ℕ) (ca : Option Layout) (g s : List ℕ) (cap from : ℕ) (m₀ m : Held) (n₀ n k : ℕ) : Type 0 where
  pub long : Long m₀.lent m.lent
  pub long-levels : length m.levels ≡ length m₀.levels
  pub long-times : length m.times ≡ length m₀.times
  pub so_far : Files width ca g s → (u roots : List Id) → GoesOn width (world_of width s g) u roots cap from m₀ n₀ 0 → GoesOn width (world_of width s g) u roots cap from m n k

pub along_first : (width : ℕ) (ca : Option Layout) (g s : List ℕ) (cap from : ℕ) (m : Held) (n : ℕ) → Along width ca g s cap from m m n n 0
along_first width ca g s cap from m n = record { long = long-none m.lent; long-levels = refl; long-times = refl; so_far = λ f u roots v. v }

module _ {width : ℕ} {ca : Option Layout} {g s : List ℕ} {cap from : ℕ} {m₀ m : Held} {n₀ n k : ℕ} (v : Along width ca g s cap from m₀ m n₀ n k) where
  module _ {m' : Held} {r : Result ℕ StepError} (h : k < n) (o : Steps width ca g s cap from m m' n k r) where
    tells : (a : Result ℕ StepError) → r ≡ a → Files width ca g s → (u roots : List Id) → GoesOn width (world_of width s g) u roots cap from m₀ n₀ 0 → ToldStep width (world_of width s g) u roots cap from m' k a
    tells a e f u roots z = let y = v.so_far f u roots z in subst (ToldStep width (world_of width s g) u roots cap from m' k) e (o.right f u roots y.list y.going h)

    pub along-next : {n' : ℕ} → Long m.lent m'.lent → length m'.levels ≡ length m.levels → length m'.times ≡ length m.times → r ≡ Ok n' → Along width ca g s cap from m₀ m' n₀ n' (k + 1)
    along-next {n'} b bl bt e = record {
      long = long-then v.long b;
      long-levels = bl ∙ v.long-levels;
      long-times = bt ∙ v.long-times;
      so_far = λ f u roots z. let q : suc k ≡ k + 1 = omega arith in subst (GoesOn width (world_of width s g) u roots cap from m' n') q (tells (Ok n') e f u roots z);
    }

    pub along-short : (x : StepError) → r ≡ Err x → Goes width ca g s cap from m₀ m' n₀ (Err x)
    along-short Unreadable e = record { right = λ f u roots z. tells (Err Unreadable) e f u roots z }
    along-short (AtOdds i) e = record { right = λ f u roots z. tells (Err (AtOdds i)) e f u roots z }
    along-short NoRoom e = record { right = λ f u roots z. tells (Err NoRoom) e f u roots z }

  -- the line never has more slots than there are
  pub along-over : k < n → cap ≤ k → Goes width ca g s cap from m₀ m n₀ (Err NoRoom)
  along-over h c = record { right = λ f u roots z. let y = v.so_far f u roots z in absurd (omega (arith, listed-few y.going.seeking.lists y.going.seeking.named)) }

  pub along-last : n ≤ k → Goes width ca g s cap from m₀ m n₀ (Ok n)
  along-last h = record { right = λ f u roots z. (k, h, v.so_far f u roots z) }
