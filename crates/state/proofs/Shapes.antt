-- The shape of a walk's settings orders its queue as the settings do, so a step by the shape is the walk's own. Assumes nothing.
use mathlib.Core.Path.{◌≡◌, refl, ap, ◌∙◌}
use Prim.Native.Nat.{ℕ}
use mathlib.Core.Bool.{Bool, true, false, cond, not, ◌&&◌}
use mathlib.Core.List.{List, ◌∷◌}
use lib.IntN.{ℤ, pos}
use lib.Signed.{lt_z}
use Rattle.hash.specs.Bytes.{Id}
use Rattle.walk.specs.declared.Settings.{Settings}
use Rattle.walk.specs.declared.Sorting.{Sorting}
use Rattle.walk.specs.declared.Sorting.TheVariants.{BreadthFirst, ByCommitTime, ByCommitTimeCutoff}
use Rattle.walk.specs.declared.CommitTimeOrder.{CommitTimeOrder}
use Rattle.walk.specs.declared.CommitTimeOrder.TheVariants.{NewestFirst, OldestFirst}
use Rattle.walk.specs.Settings.{timed, only_first, by_time, is_newest, newest_first, taken_before, sooner, goes_before}
use Rattle.walk.specs.State.{Walk, State, queued, enter, sees, waits, with_queue}
use Rattle.walk.specs.Next.{dropped, back}
use Rattle.state.specs.declared.Fixed.{Fixed}
use Rattle.state.specs.Shapes.{before_of, shape_for, joins, back_to}

taken-by : (o : CommitTimeOrder) (a b : ℤ) → taken_before o a b ≡ cond (is_newest o) (lt_z b a) (lt_z a b)
unfolding taken_before is_newest
taken-by NewestFirst a b = refl
taken-by OldestFirst a b = refl

sooner-by : (o : Sorting) (n : Bool) (a b : ℤ) → cond (timed o && n) (sooner o a b) false ≡ cond (timed o && n) (cond (timed o && n && newest_first o) (lt_z b a) (lt_z a b)) false
unfolding sooner newest_first timed
sooner-by BreadthFirst n a b = refl
sooner-by (ByCommitTime o) true a b = taken-by o a b
sooner-by (ByCommitTime o) false a b = refl
sooner-by (ByCommitTimeCutoff o c) true a b = taken-by o a b
sooner-by (ByCommitTimeCutoff o c) false a b = refl

pub order-at : (s : Settings) (n : ℕ) (f : Fixed) (a b : ℤ) → goes_before s a b ≡ before_of (shape_for s n f) a b
unfolding goes_before before_of by_time
order-at s n f a b = sooner-by s.sorting (not (only_first s)) a b

pub order_for : (s : Settings) (n : ℕ) (f : Fixed) → goes_before s ≡ before_of (shape_for s n f)
order_for s n f = λ k a b. order-at s n f a b k

-- ---- the walk's steps by its shape

pub waits-joins : (w : Walk) (st : State) (x : Id) (t : ℤ) → waits w st x t ≡ joins (goes_before w.settings) (sees st x) x (cond (by_time w.settings) t (pos 0))
unfolding waits joins sees enter
waits-joins w st x t = refl

pub waits-shape : (w : Walk) (n : ℕ) (f : Fixed) (st : State) (x : Id) (t : ℤ)
    → waits w st x t ≡ joins (before_of (shape_for w.settings n f)) (sees st x) x (cond (shape_for w.settings n f).timed t (pos 0))
waits-shape w n f st x t =
    waits-joins w st x t ∙ ap (λ (b : ℤ → ℤ → Bool). joins b (sees st x) x (cond (by_time w.settings) t (pos 0))) (order_for w.settings n f)

pub back-shape : (w : Walk) (n : ℕ) (f : Fixed) (x : Id × ℤ) (l : List (Id × ℤ)) → back w x l ≡ back_to (shape_for w.settings n f) x l
unfolding back back_to
back-shape w n f x l = ap (λ (b : ℤ → ℤ → Bool). cond (by_time w.settings) (queued b x l) (x ∷ l)) (order_for w.settings n f)

-- the queue that a state had does not count where the graph is dropped
pub dropped-again : (l m : List (Id × ℤ)) (st : State) → dropped l (with_queue m st) ≡ dropped l st
unfolding dropped with_queue
dropped-again l m st = refl
