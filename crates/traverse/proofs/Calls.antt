-- Every answer in a list of calls is the walk's: the memory left by call k beside the record that it gave back reads as the walk's state
-- after k + 1 calls, and what the caller lends next reads the same. Assumes nothing.
use Prim.Native.Nat.{ℕ, zero, suc, ◌+◌}
use mathlib.Core.Path.{◌≡◌, refl, ◌∙◌, ap, subst}
use mathlib.Core.Bool.{true}
use mathlib.Core.List.{List, [], ◌∷◌, map}
use native.Mathlib.Omega.{arith}
use lib.ListN.{length, take}
use Rattle.walk.specs.State.{State}
use Rattle.walk.specs.Opening.{Input, room_for, opened, open_walk}
use Rattle.walk.specs.Next.{Answer}
use Rattle.walk.specs.Calls.{state_after, answer_at_call, up_to}
use Rattle.walk.specs.Given.{Given, given}
use Rattle.state.specs.declared.Record.{Record}
use Rattle.state.specs.Reads.{Reads, closed_record}
use Rattle.state.specs.Shapes.{shape_of}
use Rattle.traverse.specs.Contract.{Files, Lent, lengths_of}
use Rattle.traverse.specs.Demand.{Call, Calls, call, files_of, CallIs, here, after, answers_of, Gives, Shut}

-- the first call, or one of the others
by_number : (Q : ℕ → Call → Type 0) (d : Call) (cs : List Call) → Q 0 d → ((j : ℕ) (c : Call) → CallIs cs j c → Q (suc j) c) → (k : ℕ) (c : Call) → CallIs (d ∷ cs) k c → Q k c
by_number Q d cs g f zero c here = g
by_number Q d cs g f (suc k) c (after p) = f k c p

-- ---- after an accepted opening

pub calls-walk : (i : Input) (st : State) → open_walk i true ≡ opened st → (n : ℕ) (r : Record) (m : Lent) (cs : List Call)
    → room_for i (lengths_of m) ≡ true → Reads r m.memory (shape_of i) (state_after i n) → Calls (files_of i) r m cs
    → (k : ℕ) (c : Call) → CallIs cs k c → Gives c (answer_at_call i (n + k))
calls-walk i st e n r m [] room h _ k c p = elim p [ ]
calls-walk i st e n r m (d ∷ cs) room h (call u s rest) k c p =
    let room₁ : room_for i (lengths_of d.lent) ≡ true = ap (room_for i) u.same-lengths ∙ room in
    let a = s.opened-call i.tips n st (ap (open_walk i) room₁ ∙ e) (u.reads_same (shape_of i) (state_after i n) h) in
    let room₂ : room_for i (lengths_of d.left) ≡ true = ap (room_for i) s.same-lengths ∙ room₁ in
    let z : n ≡ n + 0 = omega arith in
    by_number (λ j b. Gives b (answer_at_call i (n + j))) d cs
    (subst (λ (j : ℕ). Gives d (answer_at_call i j)) z (record { all-fields = a.0; ids-set_down = a.1 }))
    (λ j b q. let y : suc n + j ≡ n + suc j = omega arith in
    subst (λ (l : ℕ). Gives b (answer_at_call i l)) y (calls-walk i st e (suc n) d.out.record d.left cs room₂ a.2 rest j b q))
    k c p

-- ---- as lists

cons_both : {A : Type 0} {x y : A} {l m : List A} → x ≡ y → l ≡ m → ◌≡◌ {A = List A} (x ∷ l) (y ∷ m)
cons_both {A} {x} {y} {l} {m} p q = ap (λ (a : A). a ∷ l) p ∙ ap (λ (t : List A). y ∷ t) q

-- the answers are f 0, f 1, …
pub answers-up_to : (f : ℕ → Answer) (cs : List Call) → ((k : ℕ) (c : Call) → CallIs cs k c → Gives c (f k)) → answers_of cs ≡ map given (up_to f (length cs))
unfolding answers_of up_to
answers-up_to f [] h = refl
answers-up_to f (c ∷ cs) h = cons_both (h zero c here).all-fields (answers-up_to (λ n. f (suc n)) cs (λ k d p. h (suc k) d (after p)))

-- and so are those up to a call
pub take_up_to : (f : ℕ → Answer) (cs : List Call) → ((k : ℕ) (c : Call) → CallIs cs k c → Gives c (f k))
    → (k : ℕ) (c : Call) → CallIs cs k c → take (suc k) (answers_of cs) ≡ map given (up_to f (suc k))
unfolding answers_of up_to
take_up_to f [] h k d p = elim p [ ]
take_up_to f (c ∷ cs) h zero d here = cons_both (h zero c here).all-fields refl
take_up_to f (c ∷ cs) h (suc k) d (after p) = cons_both (h zero c here).all-fields (take_up_to (λ n. f (suc n)) cs (λ j b q. h (suc j) b (after q)) k d p)

-- ---- after a refused opening

pub calls-shut : (f : Files) (r : Record) (m : Lent) (cs : List Call) → r ≡ closed_record → Calls f r m cs → (k : ℕ) (c : Call) → CallIs cs k c → Shut c
unfolding closed_record given
calls-shut f r m [] e _ k c p = elim p [ ]
calls-shut f r m (d ∷ cs) e (call u s rest) k c p =
    let a = s.closed-call (ap (λ (q : Record). q.live) e) in
    let t = s.twelve (ap (λ (q : Given). q.outcome) a) in
    by_number (λ j b. Shut b) d cs (record { is-twelve = a; same_record = t.0 ∙ e; nothing_altered = t.1 })
    (calls-shut f d.out.record d.left cs (t.0 ∙ e) rest) k c p
