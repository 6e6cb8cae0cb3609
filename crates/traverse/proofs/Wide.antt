-- The ids that the walk hands out are as wide as its kind: after an accepted opening they are ids that the files and lists name, and after a
-- refused one none is handed out. Assumes nothing.
use Prim.Native.Nat.{ℕ, zero, suc}
use mathlib.Core.Path.{◌≡◌, refl, sym, subst}
use mathlib.Core.Bool.{true}
use mathlib.Core.Logic.{⊎_elim}
use mathlib.Core.List.Memᴰ
use mathlib.Core.List.{List}
use lib.ListN.{length}
use Rattle.hash.specs.Bytes.{Id}
use Rattle.walk.specs.Reach.{Mem}
use Rattle.walk.specs.State.{State}
use Rattle.walk.specs.Next.{Answer}
use Rattle.walk.specs.Opening.{Input, width_in, walk_of, Opening, closed, opened, open_walk}
use Rattle.walk.specs.Calls.{answer_at_call, answers, answers_from, shut, shut_calls, up_to}
use Rattle.walk.specs.AnyInput.{handed_by}
use Rattle.walk.proofs.Calls.{answers_at}
use Rattle.walk.proofs.Tips.{open_accepted}
use Rattle.walk.proofs.Universe.{all_told}
use Rattle.walk.proofs.Width.{universe-wide}
use Rattle.traverse.proofs.Numbered.{HandsWide}

only-shut : (k : ℕ) (a : Answer) → Mem a (shut_calls k) → a ≡ shut
unfolding shut_calls
only-shut zero a m = absurd (Memᴰ.not-nil m)
only-shut (suc k) a m = ⊎_elim (λ e. e) (only-shut k a) (Memᴰ.cases_cons m)

pub answers-wide : (i : Input) (k : ℕ) → HandsWide (width_in i) (answers i k)
unfolding answers answers_from handed_by
answers-wide i k a m x h = go (open_walk i true) refl m
  where
    go : (o : Opening) → open_walk i true ≡ o → Mem a (answers_from (walk_of i) k o) → length x ≡ width_in i
    go (closed r) e n = let z : Mem x (handed_by shut.kind) = subst (λ (b : Answer). Mem x (handed_by b.kind)) (only-shut k a n) h in absurd (Memᴰ.not-nil z)
    go (opened st) e n = universe-wide i (open_accepted i st e) x ((all_told i st e k a m).id_in_lem x h)

-- so the answer of number k
in_up_to : (f : ℕ → Answer) (k : ℕ) → Mem (f k) (up_to f (suc k))
unfolding up_to
in_up_to f zero = Memᴰ.head refl
in_up_to f (suc k) = Memᴰ.tail (in_up_to (λ n. f (suc n)) k)

pub answer-wide : (i : Input) (k : ℕ) (x : Id) → Mem x (handed_by (answer_at_call i k).kind) → length x ≡ width_in i
answer-wide i k x h = answers-wide i (suc k) (answer_at_call i k) (subst (λ (l : List Answer). Mem (answer_at_call i k) l) (sym (answers_at i (suc k))) (in_up_to (answer_at_call i) k)) x h
