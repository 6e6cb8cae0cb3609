-- Pairs in slots, and for each slot the least pair among the children read so far, by the child's slot (document 02, card 1: "each pair falls").
-- Assumes nothing.
use Rattle.std.specs.Prelude.{ℕ, zero, suc, ◌+◌, ◌*◌, ◌≤◌, ◌<◌, ◌≡◌, ◌⊎◌, Bool, true, false, cond, List, [], ◌∷◌, length, get_or, set, ℤ, pos}
use Rattle.hash.specs.Bytes.{Id}
use Rattle.object.specs.Header.{Header}
use Rattle.hashtable.specs.Table.{Holds, Table}
use Rattle.walk.specs.Lookup.{Pair, lt_pair}
use Rattle.walk.specs.Reach.{Mem}
use Rattle.reach.specs.Memory.{most_slots}

-- the greatest u32: one more than a child's slot fits a cell below it
abbrev pub most_child : ℕ
most_child = 4294967295

-- the pair in a slot
abbrev pub slot_pair : List ℕ → List ℤ → ℕ → Pair
slot_pair levels times k = record { generation = get_or levels k 0; time = get_or times k (pos 0) }

-- ---- one cell: 0 where no child was read, else one more than the slot of the child with the least pair

-- whether a pair lies below all children read
unfoldable pub low_in : List ℕ → List ℤ → ℕ → Pair → Bool
low_in levels times zero q = true
low_in levels times (suc c) q = lt_pair q (slot_pair levels times c)

-- the cell with a child more
unfoldable pub lowered : List ℕ → List ℤ → ℕ → ℕ → ℕ
lowered levels times child zero = suc child
lowered levels times child (suc c) = cond (lt_pair (slot_pair levels times child) (slot_pair levels times c)) (suc child) (suc c)

-- ---- the cells of the line: cell 2·s and hint 2·s + 1 belong to slot s

abbrev pub low_at : List ℕ → List ℕ → List ℤ → ℕ → Pair → Bool
low_at line levels times s q = low_in levels times (get_or line (2 * s) 0) q

-- whether the pair of a slot lies below all children read
abbrev pub is_low : List ℕ → List ℕ → List ℤ → ℕ → Bool
is_low line levels times s = low_at line levels times s (slot_pair levels times s)

-- what `lower_at` does
pub record SetsCell (levels : List ℕ) (times : List ℤ) (s child hint : ℕ) (line line' : List ℕ) : Type 0 where
  pub right : child < most_child → line' ≡ set (set line (2 * s) (lowered levels times child (get_or line (2 * s) 0))) (2 * s + 1) hint

-- what `fill_at` does
pub record FillsCell (s child hint : ℕ) (line line' : List ℕ) : Type 0 where
  pub right : child < most_child → line' ≡ set (set line (2 * s) (suc child)) (2 * s + 1) hint

-- what `all_low` answers of the n slots from place `from` on
pub record AllLow (line levels : List ℕ) (times : List ℤ) (from n : ℕ) (r : Bool) : Type 0 where
  pub yes : r ≡ true → (i : ℕ) → i < n → is_low line levels times (get_or line (from + i) 0) ≡ true
  pub no : r ≡ false → (i : ℕ) × (i < n) × (is_low line levels times (get_or line (from + i) 0) ≡ false)

-- ---- the cells of parents

-- the lent buffers that pairs are compared in
pub record Slots : Type 0 where
  pub names : List ℕ
  pub marks : List ℕ
  pub levels : List ℕ
  pub times : List ℤ

abbrev pub slots_in : List ℕ → List ℕ → List ℕ → List ℤ → Slots
slots_in names marks levels times = record { names = names; marks = marks; levels = levels; times = times }

-- slot k holds x
abbrev pub HeldIn : ℕ → Slots → ℕ → Id → ℕ → Type 0
HeldIn width a cap x k = Holds width false a.names a.marks cap x k

-- the table is right, and the line has a cell for each slot
pub record Right (width : ℕ) (a : Slots) (cap child : ℕ) (line : List ℕ) : Type 0 where
  pub table : Table width false a.names a.marks cap
  pub small : cap ≤ most_slots
  pub room : 2 * cap ≤ length line
  pub fits : child < most_child

-- the cells of the slots that hold the ids xs were lowered by a child, and nothing else was changed but hints
pub record Lowered (width : ℕ) (a : Slots) (cap child : ℕ) (xs : List Id) (line line' : List ℕ) : Type 0 where
  pub long : length line' ≡ length line
  pub beyond : (j : ℕ) → 2 * cap ≤ j → get_or line' j 0 ≡ get_or line j 0
  pub cells : (s : ℕ) → s < cap → (get_or line' (2 * s) 0 ≡ get_or line (2 * s) 0) ⊎ (get_or line' (2 * s) 0 ≡ suc child)
  pub keeps : (s : ℕ) (q : Pair) → s < cap → low_at line' a.levels a.times s q ≡ true → low_at line a.levels a.times s q ≡ true
  pub under : (s : ℕ) (q : Pair) → s < cap → low_at line' a.levels a.times s q ≡ true → (p : Id) → Mem p xs → HeldIn width a cap p s → lt_pair q (slot_pair a.levels a.times child) ≡ true
  pub only : (s : ℕ) (q : Pair) → s < cap → low_at line a.levels a.times s q ≡ true
      → ((p : Id) → Mem p xs → HeldIn width a cap p s → lt_pair q (slot_pair a.levels a.times child) ≡ true) → low_at line' a.levels a.times s q ≡ true

-- what `lower_to` does, where the table has the id
pub record LowersTo (width : ℕ) (a : Slots) (cap child : ℕ) (x : Id) (line line' : List ℕ) : Type 0 where
  pub right : Right width a cap child line → (s : ℕ) → HeldIn width a cap x s → Lowered width a cap child (x ∷ []) line line'

-- what `lower_from` does with the n parents of a header, where the table has them
pub record LowersFrom (width : ℕ) (a : Slots) (cap child : ℕ) (h : Header) (n : ℕ) (line line' : List ℕ) : Type 0 where
  pub right : Right width a cap child line → h.tree ≡ true → n ≡ length h.ids → ((p : Id) → Mem p h.ids → (s : ℕ) × HeldIn width a cap p s) → Lowered width a cap child h.ids line line'

-- what `lower_new` does with the slots at c places of the line, behind the first n of its part, which hold the ids xs and whose cells are empty
pub record LowersNew (width : ℕ) (from n c child : ℕ) (line line' : List ℕ) : Type 0 where
  pub right : (a : Slots) (cap : ℕ) → Right width a cap child line → 2 * cap ≤ from → (xs : List Id) → c ≡ length xs
      → ((i : ℕ) → i < c → HeldIn width a cap (get_or xs i []) (get_or line (from + n + i) 0)) → ((i : ℕ) → i < c → get_or line (2 * get_or line (from + n + i) 0) 0 ≡ 0) → Lowered width a cap child xs line line'

-- what `lower_parents` does: all parents are new to the line, or each is looked for
pub record LowersParents (width : ℕ) (a : Slots) (cap from n m child : ℕ) (h : Header) (c : ℕ) (line line' : List ℕ) : Type 0 where
  pub either : ((m ≡ n + c) × LowersNew width from n c child line line') ⊎ LowersFrom width a cap child h c line line'
