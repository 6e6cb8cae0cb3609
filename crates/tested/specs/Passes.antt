-- What the pass of a tested opening does along the line (document 02, card 1). Assumes nothing.
use Rattle.std.specs.Prelude.{ℕ, suc, ◌+◌, ◌*◌, ◌≤◌, ◌<◌, ◌≡◌, ◌⊎◌, Bool, true, false, List, [], length, get_or, ℤ, Option, Result, Ok, Err}
use Rattle.commitgraph.specs.declared.Layout.{Layout}
use Rattle.hash.specs.Bytes.{Id}
use Rattle.date.specs.declared.Stamp.{Stamp}
use Rattle.object.specs.Header.{Header, header}
use Rattle.object.specs.Read.{reading_of, readable_as}
use Rattle.hashtable.specs.Table.{id_of}
use Rattle.walk.specs.Lookup.{World, world_of, Pair, lt_pair}
use Rattle.walk.specs.Reach.{Mem, links}
use Rattle.walk.specs.Demand.{Readable, pair_at}
use Rattle.reading.specs.Stored.{GivesBody}
use Rattle.reach.specs.Search.{ReachedBy, Stuck}
use Rattle.reach.specs.Memory.{Lent, lent, In}
use Rattle.reach.specs.Seek.{Seeking}
use Rattle.reach.specs.Tested.{agrees_in}
use Rattle.judging.specs.Judge.{Files}
use Rattle.falling.specs.Cells.{most_child, slot_pair, low_at}
use Rattle.tested.specs.declared.step.StepError.{StepError}
use Rattle.tested.specs.declared.step.StepError.TheVariants.{Unreadable, AtOdds, NoRoom}

-- the lent buffers: those that the search works in, and the pairs of the slots
pub record Held : Type 0 where
  pub lent : Lent
  pub levels : List ℕ
  pub times : List ℤ

abbrev pub held : List ℕ → List ℕ → List ℕ → List ℤ → List ℕ → Held
held names marks levels times line = record { lent = lent names marks line; levels = levels; times = times }

-- the slot at place i of the line, and the pair in a slot
abbrev pub slot_at : ℕ → Held → ℕ → ℕ
slot_at from m i = get_or m.lent.line (from + i) 0

abbrev pub pair_in : Held → ℕ → Pair
pair_in m s = slot_pair m.levels m.times s

-- whether a pair lies below the cell of a slot
abbrev pub low_of : Held → ℕ → Pair → Bool
low_of m s q = low_at m.lent.line m.levels m.times s q

-- the pair q lies below those of the children, among the first k of l, of the commit in slot s
abbrev pub UnderAll : ℕ → World → ℕ → Lent → List Id → ℕ → ℕ → Pair → Type 0
UnderAll width w cap m l k s q = (i : ℕ) → i < k → (p : Id) → Mem p (links w (get_or l i [])) → In width cap m p s → lt_pair q (pair_at w (get_or l i [])) ≡ true

-- room for cells and pairs
pub record Roomy (cap from : ℕ) (m : Held) : Type 0 where
  pub levels : cap ≤ length m.levels
  pub times : cap ≤ length m.times
  pub below : 2 * cap ≤ from
  pub small : cap ≤ most_child

-- the search has met the list l and read its first k: the graph agrees on these, their pairs stand in their slots, and the cell of a slot stands for
-- all children among them
pub record Going (width : ℕ) (w : World) (u roots : List Id) (cap from : ℕ) (m : Held) (n : ℕ) (l : List Id) (k : ℕ) : Type 0 where
  pub seeking : Seeking width w u roots false cap from m.lent n l k
  pub roomy : Roomy cap from m
  pub agrees : (i : ℕ) → i < k → agrees_in w (get_or l i []) ≡ true
  pub paired : (i : ℕ) → i < k → pair_in m (slot_at from m i) ≡ pair_at w (get_or l i [])
  pub cells : (s : ℕ) → s < cap → (get_or m.lent.line (2 * s) 0 ≡ 0) ⊎ ((i : ℕ) × (i < k) × (get_or m.lent.line (2 * s) 0 ≡ suc (slot_at from m i)))
  pub sound : (s : ℕ) (q : Pair) → s < cap → low_of m s q ≡ true → UnderAll width w cap m.lent l k s q
  pub tight : (s : ℕ) (q : Pair) → s < cap → UnderAll width w cap m.lent l k s q → low_of m s q ≡ true

-- so from a list that is not known
pub record GoesOn (width : ℕ) (w : World) (u roots : List Id) (cap from : ℕ) (m : Held) (n k : ℕ) : Type 0 where
  pub list : List Id
  pub going : Going width w u roots cap from m n list k

-- "14 graph at odds": a commit that is reached, on which the graph does not agree; the search can go on
pub record Off (width : ℕ) (w : World) (u roots : List Id) (cap from : ℕ) (m : Lent) (n : ℕ) : Type 0 where
  pub commit : Id
  pub reached : ReachedBy w roots commit
  pub odd : agrees_in w commit ≡ false
  pub list : List Id
  pub seeking : Seeking width w u roots false cap from m n list 0

-- ---- one commit

abbrev pub ToldStep : ℕ → World → List Id → List Id → ℕ → ℕ → Held → ℕ → Result ℕ StepError → Type 0
ToldStep width w u roots cap from m' k (Ok n') = GoesOn width w u roots cap from m' n' (suc k)
ToldStep width w u roots cap from m' k (Err Unreadable) = Stuck w roots
ToldStep width w u roots cap from m' k (Err (AtOdds n')) = Off width w u roots cap from m'.lent n'
ToldStep width w u roots cap from m' k (Err NoRoom) = ⊥

-- the commit at place k in hand: its slot, its header with c parents, its pair q
pub record InHand (w : World) (from : ℕ) (m : Held) (l : List Id) (k slot : ℕ) (q : Pair) (h : Header) (c : ℕ) : Type 0 where
  pub slot_is : slot ≡ slot_at from m k
  pub tree : h.tree ≡ true
  pub count : c ≡ length h.ids
  pub links_are : links w (get_or l k []) ≡ h.ids
  pub readable : Readable w (get_or l k [])
  pub agrees : agrees_in w (get_or l k []) ≡ true
  pub pair : q ≡ pair_at w (get_or l k [])

-- what `take` does
pub record Takes (width : ℕ) (cap from : ℕ) (m m' : Held) (n slot : ℕ) (q : Pair) (h : Header) (c : ℕ) (r : Result ℕ StepError) : Type 0 where
  pub right : (w : World) (u roots l : List Id) (k : ℕ) → Going width w u roots cap from m n l k → k < n → InHand w from m l k slot q h c → ToldStep width w u roots cap from m' k r

-- what `read_at` does
pub record Steps (width : ℕ) (c : Option Layout) (g s : List ℕ) (cap from : ℕ) (m m' : Held) (n k : ℕ) (r : Result ℕ StepError) : Type 0 where
  pub right : Files width c g s → (u roots l : List Id) → Going width (world_of width s g) u roots cap from m n l k → k < n → ToldStep width (world_of width s g) u roots cap from m' k r

-- what `read_in` does: the same of each place whose slot this is
pub record StepsIn (width : ℕ) (c : Option Layout) (g s : List ℕ) (cap from : ℕ) (m m' : Held) (n slot : ℕ) (r : Result ℕ StepError) : Type 0 where
  pub right : (k : ℕ) → slot ≡ slot_at from m k → Steps width c g s cap from m m' n k r

-- what `judge_and_take` does: the same, where b is the body of the slot's commit, and readable with p parents and these seconds
pub record StepsRead (width : ℕ) (c : Option Layout) (g s : List ℕ) (cap from : ℕ) (m m' : Held) (n slot : ℕ) (b : List ℕ) (p : ℕ) (seconds : ℤ) (r : Result ℕ StepError) : Type 0 where
  pub right : GivesBody width s (id_of width m.lent.names slot) b → (t : Stamp) → reading_of (header width b) ≡ readable_as p t → seconds ≡ t.seconds.0 → StepsIn width c g s cap from m m' n slot r

-- ---- the line

-- all is reached and read; and where pairs fall is told by the cells
abbrev pub ToldGone : ℕ → World → List Id → List Id → ℕ → ℕ → Held → Result ℕ StepError → Type 0
ToldGone width w u roots cap from m' (Ok n) = (k : ℕ) × (n ≤ k) × GoesOn width w u roots cap from m' n k
ToldGone width w u roots cap from m' (Err Unreadable) = Stuck w roots
ToldGone width w u roots cap from m' (Err (AtOdds n)) = Off width w u roots cap from m'.lent n
ToldGone width w u roots cap from m' (Err NoRoom) = ⊥

-- what `go_along` does
pub record Goes (width : ℕ) (c : Option Layout) (g s : List ℕ) (cap from : ℕ) (m m' : Held) (n : ℕ) (r : Result ℕ StepError) : Type 0 where
  pub right : Files width c g s → (u roots : List Id) → GoesOn width (world_of width s g) u roots cap from m n 0 → ToldGone width (world_of width s g) u roots cap from m' r
