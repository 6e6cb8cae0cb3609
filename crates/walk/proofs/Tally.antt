-- The sum and the end, of any walk and with no premises. A call uses up one commit and leaves the others where they were, or says end, or is
-- painting's own refusal, which strikes all; so the sum is kept. And each call that uses up a commit leaves fewer that wait or are unseen, so
-- end comes. Assumes nothing.
use Rattle.std.specs.Prelude.{None, Option, Some}
use mathlib.Core.Path.{◌≡◌, refl, ap, subst}
use mathlib.Core.Logic.{◌⊎◌, inl, inr, ⊎_elim}
use Prim.Native.Nat.{ℕ, zero, suc, ◌+◌, ◌-◌, ◌≤◌, ◌<◌}
use mathlib.Core.Bool.{Bool, true, false}
use mathlib.Core.List.{List, [], ◌∷◌, map}
use native.Mathlib.Omega.{arith}
use lib.ListN.{length}
use lib.IntN.{ℤ}
use lib.Dec.{ltb}
use borrow.Author.Tests.{lt-ltb, le-ltb}
use Rattle.hash.specs.Bytes.{Id}
use Rattle.hash.proofs.Tests.{by_cases, clash}
use Rattle.object.specs.Header.{Header}
use Rattle.walk.specs.declared.Refusal.{Refusal}
use Rattle.walk.specs.declared.Refusal.TheVariants.{CommitNotFound}
use Rattle.walk.specs.Settings.{goes_before, by_time, followed}
use Rattle.walk.specs.Lookup.{row}
use Rattle.walk.specs.State.{Walk, State, with_queue, nobody}
use Rattle.walk.specs.Painting.{both_marks}
use Rattle.walk.specs.Next.{level_shown, zoned, zone_shown, Kind, end, refused, handed, Answer, Step, step, visit_all, dropped, back, with_seconds, queued_seconds, ending, kind_of, painted_with, next}
use Rattle.walk.specs.Calls.{calls}
use Rattle.walk.specs.Reach.{Mem}
use Rattle.walk.specs.Sums.{uses_kind, uses, Sums, EndsBy, before, over}
use Rattle.walk.proofs.Queue.{length_queued}
use Rattle.walk.proofs.Moves.{Takes, nothing, absent, from-store, from_row, drops, Moves, later, unhidden, strikes, stops, moves}
use Rattle.walk.proofs.Visits.{left, visit_all-left, visit_all-sum}
use Rattle.walk.proofs.Stays.{Ended, end-ended, ended-calls}
use Rattle.walk.proofs.FirstCall.{paints}
use Rattle.walk.proofs.Take.{followed_sub, mem_map, with_seconds_lem}
use Rattle.walk.proofs.Outside.{outside_length}

length_back : (v : Walk) (x : Id × ℤ) (q : List (Id × ℤ)) → length (back v x q) ≡ suc (length q)
unfolding back
length_back v x q = by_cases (by_time v.settings) (λ h. rw h (length_queued (goes_before v.settings) x q)) (λ h. rw h)

-- ---- the sum

-- n commits were used up
abbrev pub Tally : ℕ → State → Type 0
Tally n st = st.admitted ≡ n + st.struck + length st.queue

-- what an answer and the state after it have to meet
pub record Adds (n : ℕ) (r : Step) : Type 0 where
  pub sums : r.answer.admitted ≡ n + uses r.answer + r.answer.struck + r.answer.waiting
  pub then-tally : Tally (n + uses r.answer) r.state

end_adds : (n : ℕ) (st : State) → Tally n st → Adds n (step end [] st)
unfolding uses uses_kind step
end_adds n st t = record { sums = omega arith; then-tally = omega arith }

-- painting's own refusal uses up no commit
stop_adds : (n : ℕ) (st : State) (m : Refusal) → n ≡ 0 → Tally n st → Adds n (step (refused m) [] (painted_with st [] nobody))
unfolding uses uses_kind step painted_with
stop_adds n st m z t =
    let le : st.admitted ≤ st.struck + (length st.queue - 0) = omega arith in
    let e : ltb (st.struck + (length st.queue - 0)) st.admitted ≡ false = le-ltb _ _ le in
    record { sums = rw e (omega arith); then-tally = rw e (omega arith) }

pub stop-uses : (st : State) (m : Refusal) → Tally 0 st → uses (step (refused m) [] (painted_with st [] nobody)).answer ≡ 0
unfolding uses uses_kind step painted_with
stop-uses st m t =
    let le : st.admitted ≤ st.struck + (length st.queue - 0) = omega arith in
    let e : ltb (st.struck + (length st.queue - 0)) st.admitted ≡ false = le-ltb _ _ le in
    rw e

-- a commit is used up where it is handed out or refused
Used : Kind → Type 0
Used end = ⊥
Used (refused n) = Unit {0}
Used (handed x l t) = Unit {0}

used_kind : (n : Option Refusal) (x : Id) (l : Option ℕ) (t : Option ℤ) → Used (kind_of n (handed x l t))
unfolding Used kind_of
used_kind None x l t = tt
used_kind (Some n) x l t = tt

uses-one : (k : Kind) (b : Bool) → Used k → b ≡ true → uses_kind k b ≡ 1
unfolding Used uses_kind
uses-one end b u e = absurd u
uses-one (refused n) b u e = rw e
uses-one (handed x l t) b u e = refl

module _ (v : Walk) where
  -- from a state that the commit is out of: it is not struck, so fewer are struck than admitted
  used-one : (n : ℕ) (k : Kind) → Used k → (f : List Id) (ps : List (Id × ℤ)) (st : State) → st.admitted ≡ suc (n + st.struck + length st.queue) → uses (step k f (visit_all v st ps)).answer ≡ 1
  unfolding uses step
  used-one n k u f ps st t =
      let b = visit_all-sum v ps st in
      let lt : (visit_all v st ps).struck < (visit_all v st ps).admitted = omega (arith, b.0, b.1) in
      uses-one k _ u (lt-ltb _ _ lt)

  used-adds : (n : ℕ) (k : Kind) → Used k → (f : List Id) (ps : List (Id × ℤ)) (st : State) → st.admitted ≡ suc (n + st.struck + length st.queue) → Adds n (step k f (visit_all v st ps))
  unfolding uses step
  used-adds n k u f ps st t =
      let b = visit_all-sum v ps st in
      let one : uses_kind k (ltb (visit_all v st ps).struck (visit_all v st ps).admitted) ≡ 1 = used-one n k u f ps st t in
      record { sums = omega (arith, one, b.0, b.1); then-tally = omega (arith, one, b.0, b.1) }

  -- a zone adds nothing
  adds-zoned : {n : ℕ} {r : Step} (z : Option ℤ) → Adds n r → Adds n (zoned z r)
  unfolding uses
  adds-zoned z a = record { sums = a.sums; then-tally = a.then-tally }

  takes-adds : (n : ℕ) {st : State} {r : Step} → Takes v st r → Tally n st → Adds n r
  unfolding with_queue dropped visit_all Used
  takes-adds n {st} (nothing e) t = end_adds n st t
  takes-adds n {st} (absent x q e k) t = used-adds n (refused CommitNotFound) tt [] [] (with_queue q st) (omega (arith, ap length e))
  takes-adds n {st} (from-store x q h e k) t =
      adds-zoned (zone_shown (ending v.settings h) h.zone)
      (used-adds n (kind_of (ending v.settings h) (handed x.0 None (queued_seconds v x.1))) (used_kind (ending v.settings h) x.0 None (queued_seconds v x.1))
      (followed v.settings h.ids) (with_seconds v (followed v.settings h.ids)) (with_queue q st) (omega (arith, ap length e)))
  takes-adds n {st} (from_row x q ps l s e k) t =
      used-adds n (handed x.0 (level_shown l) (queued_seconds v x.1)) tt (map (λ p. p.0) (followed v.settings ps)) (followed v.settings ps) (with_queue q st) (omega (arith, ap length e))
  takes-adds n {st} (drops x q e t) s = takes-adds n t (omega (arith, ap length e, length_back v x q))

  -- whatever is taken and refused counts
  pub takes-uses : (n : ℕ) {st : State} {r : Step} → Takes v st r → Tally n st → (m : Refusal) → r.answer.kind ≡ refused m → uses r.answer ≡ 1
  unfolding step uses with_queue dropped visit_all Used
  takes-uses n {st} (nothing e) t m k = let z : ◌≡◌ {A = ℕ} 0 1 = cc in absurd (omega arith)
  takes-uses n {st} (absent x q e b) t m k = used-one n (refused CommitNotFound) tt [] [] (with_queue q st) (omega (arith, ap length e))
  takes-uses n {st} (from-store x q h e b) t m k =
      used-one n (kind_of (ending v.settings h) (handed x.0 None (queued_seconds v x.1))) (used_kind (ending v.settings h) x.0 None (queued_seconds v x.1))
      (followed v.settings h.ids) (with_seconds v (followed v.settings h.ids)) (with_queue q st) (omega (arith, ap length e))
  takes-uses n {st} (from_row x q ps l s e b) t m k =
      used-one n (handed x.0 (level_shown l) (queued_seconds v x.1)) tt (map (λ p. p.0) (followed v.settings ps)) (followed v.settings ps) (with_queue q st) (omega (arith, ap length e))
  takes-uses n {st} (drops x q e d) t m k = takes-uses n d (omega (arith, ap length e, length_back v x q)) m k

  pub moves-adds : (n : ℕ) {st : State} {r : Step} → (st.painted ≡ false → n ≡ 0) → Moves v st r → Tally n st → Adds n r
  unfolding painted_with
  moves-adds n z (later u m) t = takes-adds n m t
  moves-adds n z (unhidden u m) t = takes-adds n m (omega arith)
  moves-adds n {st} z (strikes p u e m) t = takes-adds n m (omega (arith, outside_length (both_marks p) st.queue))
  moves-adds n {st} z (stops m u e) t = stop_adds n st m (z u) t

  pub calls-sum : (k n : ℕ) (st : State) → (st.painted ≡ false → n ≡ 0) → Tally n st → Sums n (calls v k st)
  unfolding calls
  calls-sum zero n st z t = Sums.no_call
  calls-sum (suc k) n st z t =
      let a = moves-adds n z (moves v st) t in
      Sums.call a.sums (calls-sum k (n + uses (next v st).answer) (next v st).state (λ e. clash (paints v st) e) a.then-tally)

-- ---- the end

ends_tail : {n : ℕ} {a : Answer} {rest : List Answer} → EndsBy n (a ∷ rest) → (j : ℕ) × ((m : ℕ) → n ≤ suc m → j ≤ m) × EndsBy j rest
ends_tail (before {n = n} e) = (n, (λ m l. omega arith), e)
ends_tail (over k e) = (zero, (λ m l. omega arith), e)

-- what ends early ends late
pub ends_up : (l : List Answer) (n m : ℕ) → n ≤ m → EndsBy n l → EndsBy m l
ends_up [] n m le e = EndsBy.no_call
ends_up (a ∷ l) n zero le e = subst (λ (j : ℕ). EndsBy j (a ∷ l)) (omega arith) e
ends_up (a ∷ l) n (suc m) le e = let t = ends_tail e in before (ends_up l t.0 m (t.1 m le) t.2)

module _ (v : Walk) (us : List Id)
    (in_rows : (x p : Id) (ps : List (Id × ℤ)) (l : ℕ) (s : ℤ) → v.world.graph x ≡ row ps l s → Mem p (map (λ q. q.0) ps) → Mem p us)
    (in_store_lem : (x p : Id) (h : Header) → v.world.store x ≡ Some h → Mem p h.ids → Mem p us) where
  -- end, or fewer are left
  takes-left : {st : State} {r : Step} → Takes v st r → (r.answer.kind ≡ end) ⊎ (left us r.state < left us st)
  unfolding step with_queue dropped left
  takes-left (nothing e) = inl refl
  takes-left (absent x q e k) = inr (omega (arith, ap length e))
  takes-left {st} (from-store x q h e k) =
      let f = followed v.settings h.ids in
      let l : left us (visit_all v (with_queue q st) (with_seconds v f)) ≤ left us (with_queue q st) = visit_all-left v us (with_seconds v f) (with_queue q st)
      (λ p m. in_store_lem x.0 p.0 h k (followed_sub v.settings p.0 h.ids (with_seconds_lem v f p m).0)) in
      inr (omega (arith, ap length e))
  takes-left {st} (from_row x q ps g s e k) =
      let f = followed v.settings ps in
      let l : left us (visit_all v (with_queue q st) f) ≤ left us (with_queue q st) = visit_all-left v us f (with_queue q st)
      (λ p m. in_rows x.0 p.0 ps g s k (mem_map (λ (r : Id × ℤ). r.0) p ps (followed_sub v.settings p ps m))) in
      inr (omega (arith, ap length e))
  takes-left (drops x q e t) = ⊎_elim inl (λ l. inr (omega (arith, ap length e, length_back v x q))) (takes-left t)

  -- or painting was refused, and nothing waits
  moves-left : {st : State} {r : Step} → Moves v st r → (r.answer.kind ≡ end) ⊎ (Ended r.state ⊎ (left us r.state < left us st))
  unfolding step painted_with left
  moves-left (later u t) = ⊎_elim inl (λ l. inr (inr l)) (takes-left t)
  moves-left (unhidden u t) = ⊎_elim inl (λ l. inr (inr l)) (takes-left t)
  moves-left {st} (strikes p u e t) = ⊎_elim inl (λ l. inr (inr (omega (arith, outside_length (both_marks p) st.queue)))) (takes-left t)
  moves-left (stops n u e) = inr (inl (record { is-painted = refl; is-empty = refl }))

  pub calls-end : (k n : ℕ) (st : State) → left us st ≤ n → EndsBy (suc n) (calls v k st)
  unfolding calls
  calls-end zero n st le = EndsBy.no_call
  calls-end (suc k) n st le =
      before (⊎_elim (λ e. over-now (end-ended v st e)) (λ o. ⊎_elim over-now (λ l. fewer n le (λ m d. calls-end k m (next v st).state d) l) o) (moves-left (moves v st)))
    where
      over-now : Ended (next v st).state → EndsBy n (calls v k (next v st).state)
      over-now e = ends_up _ 0 n (omega arith) (ended-calls v k (next v st).state e)

      fewer : (j : ℕ) → left us st ≤ j → ((m : ℕ) → left us (next v st).state ≤ m → EndsBy (suc m) (calls v k (next v st).state)) → left us (next v st).state < left us st
          → EndsBy j (calls v k (next v st).state)
      fewer zero a rec l = absurd (omega arith)
      fewer (suc m) a rec l = rec m (omega arith)
