-- The numbers in an answer are those of the state after it, so they stay within P; and its parents are at most 256, as both files give no more.
-- Assumes nothing.
use Rattle.std.specs.Prelude.{None, Option, Some}
use mathlib.Core.Path.{◌≡◌, refl, sym, subst}
use mathlib.Core.Logic.{⊎_elim}
use Prim.Native.Nat.{ℕ, zero, suc, ◌≤◌, ◌+◌}
use mathlib.Core.Bool.{Bool, true, false, cond}
use mathlib.Core.List.Memᴰ
use mathlib.Core.List.{List, [], ◌∷◌, map}
use native.Mathlib.Omega.{arith}
use lib.ListN.{length, take, length-take, length-map}
use lib.IntN.{ℤ}
use Rattle.hash.specs.Bytes.{Id}
use Rattle.object.specs.Header.{Header, most}
use Rattle.walk.specs.declared.Settings.{Settings}
use Rattle.walk.specs.declared.Refusal.TheVariants.{CommitNotFound}
use Rattle.walk.specs.Settings.{followed, only_first}
use Rattle.walk.specs.Lookup.{row}
use Rattle.walk.specs.State.{Walk, State, with_queue, nobody}
use Rattle.walk.specs.Opening.{Input, walk_of, P, refusal, Opening, closed, opened, open_walk}
use Rattle.walk.specs.Next.{zoned, zone_shown, ending, Kind, end, refused, Answer, Step, step, painted_with, next}
use Rattle.walk.specs.Calls.{calls, shut_calls, answers_from, answers}
use Rattle.walk.specs.Reach.{Mem}
use Rattle.walk.specs.Sums.{Sums, SumLaw, uses}
use Rattle.walk.specs.AnyInput.{Numbers, AllNumbers}
use Rattle.walk.proofs.Whole.{answers-calls, sum_law}
use Rattle.walk.proofs.Moves.{Takes, nothing, absent, from-store, from_row, drops, Moves, later, unhidden, strikes, stops, moves}
use Rattle.walk.proofs.Few.{rows_of, headers_of}
use Rattle.walk.proofs.Room.{Roomy, roomy-fits, open_roomy, next-roomy}
use Rattle.walk.proofs.Tips.{open_accepted}

-- ---- a step's answer

-- its numbers are the state's, and its parents are few
pub record Told (r : Step) : Type 0 where
  pub admitted-is : r.answer.admitted ≡ r.state.admitted
  pub struck-is : r.answer.struck ≡ r.state.struck
  pub waiting-is : r.answer.waiting ≡ length r.state.queue
  pub few : length r.answer.parents ≤ most

told : (k : Kind) (f : List Id) (st : State) → length f ≤ most → Told (step k f st)
unfolding step
told k f st l = record { admitted-is = refl; struck-is = refl; waiting-is = refl; few = l }

told-zoned : {r : Step} (z : Option ℤ) → Told r → Told (zoned z r)
told-zoned z t = record { admitted-is = t.admitted-is; struck-is = t.struck-is; waiting-is = t.waiting-is; few = t.few }

followed-few : {A : Type 0} (s : Settings) (l : List A) → length (followed s l) ≤ length l
unfolding followed
followed-few s l = go (only_first s)
  where
    go : (b : Bool) → length (cond b (take 1 l) l) ≤ length l
    go true = simp length-take (omega arith)
    go false = omega arith

module _ (v : Walk)
    (few-rows : (x : Id) (ps : List (Id × ℤ)) (l : ℕ) (s : ℤ) → v.world.graph x ≡ row ps l s → length ps ≤ most)
    (few-store : (x : Id) (h : Header) → v.world.store x ≡ Some h → length h.ids ≤ most) where
  takes_told : {st : State} {r : Step} → Takes v st r → Told r
  takes_told {st} (nothing e) = told end [] st (omega arith)
  takes_told {st} (absent x q e k) = told (refused CommitNotFound) [] (with_queue q st) (omega arith)
  takes_told (from-store x q h e k) =
      told-zoned (zone_shown (ending v.settings h) h.zone) (told _ (followed v.settings h.ids) _ (omega (arith, followed-few v.settings h.ids, few-store x.0 h k)))
  takes_told (from_row x q ps l s e k) =
      told _ (map (λ p. p.0) (followed v.settings ps)) _
      (omega (arith, length-map (followed v.settings ps) (λ (p : Id × ℤ). p.0), followed-few v.settings ps, few-rows x.0 ps l s k))
  takes_told (drops x q e t) = takes_told t

  moves-told : {st : State} {r : Step} → Moves v st r → Told r
  moves-told (later u t) = takes_told t
  moves-told (unhidden u t) = takes_told t
  moves-told (strikes p u e t) = takes_told t
  moves-told {st} (stops n u e) = told (refused n) [] (painted_with st [] nobody) (omega arith)

  pub next-told : (st : State) → Told (next v st)
  next-told st = moves-told (moves v st)

-- ---- of an input

-- struck and waiting are parts of the admitted
sums_parts : (n : ℕ) (l : List Answer) → Sums n l → (a : Answer) → Mem a l → (a.struck ≤ a.admitted) × (a.waiting ≤ a.admitted)
sums_parts n [] Sums.no_call a m = absurd (Memᴰ.not-nil m)
sums_parts n (b ∷ l) (Sums.call e s) a m =
    ⊎_elim
    (λ j. subst (λ (c : Answer). (c.struck ≤ c.admitted) × (c.waiting ≤ c.admitted)) (sym j) (omega (arith, e), omega (arith, e)))
    (λ j. sums_parts (n + uses b) l s a j)
    (Memᴰ.cases_cons m)

calls_admit : (i : Input) (k : ℕ) (st : State) → refusal i ≡ None → Roomy i st → (a : Answer) → Mem a (calls (walk_of i) k st) → (a.admitted ≤ P i) × (length a.parents ≤ most)
unfolding calls
calls_admit i zero st e r a m = absurd (Memᴰ.not-nil m)
calls_admit i (suc k) st e r a m =
    let n = next-roomy i st r in
    let t = next-told (walk_of i) (rows_of i) (headers_of i) st in
    ⊎_elim
    (λ j. subst (λ (c : Answer). (c.admitted ≤ P i) × (length c.parents ≤ most)) (sym j)
    (omega (arith, t.admitted-is, (roomy-fits i e (next (walk_of i) st).state n).admitted-fits), t.few))
    (calls_admit i k (next (walk_of i) st).state e n a)
    (Memᴰ.cases_cons m)

shut-numbers : (n k : ℕ) (a : Answer) → Mem a (shut_calls k) → Numbers n a
unfolding shut_calls
shut-numbers n zero a m = absurd (Memᴰ.not-nil m)
shut-numbers n (suc k) a m =
    ⊎_elim
    (λ j. subst (Numbers n) (sym j) (record { admitted_in = omega arith; struck_in = omega arith; waiting_in = omega arith; parents_in = omega arith }))
    (shut-numbers n k a) (Memᴰ.cases_cons m)

pub all-numbers : (i : Input) → AllNumbers i
unfolding AllNumbers SumLaw answers answers_from
all-numbers i k a = go (open_walk i true) refl
  where
    go : (o : Opening) → open_walk i true ≡ o → Mem a (answers_from (walk_of i) k o) → Numbers (P i) a
    go (closed n) e m = shut-numbers (P i) k a m
    go (opened st) e m =
        let s = sums_parts 0 (answers i k) (sum_law i st e k) a (subst (λ (l : List Answer). Mem a l) (sym (answers-calls i st e k)) m) in
        let c = calls_admit i k st (open_accepted i st e) (open_roomy i st e) a m in
        record { admitted_in = c.0; struck_in = omega (arith, s.0, c.0); waiting_in = omega (arith, s.1, c.0); parents_in = c.1 }
