-- What moving slots in the heap keeps: over any order lt, and contents as a function of the place. Where the order looks at the memory
-- itself, as at numbers beside the heap, it is by line.
use Rattle.std.specs.Prelude.{◌≡◌, ◌⊎◌, List, Bool, true, false, ℕ, ◌+◌, ◌-◌, ◌/◌, ◌≤◌, ◌<◌, set}
use Rattle.revwalk.specs.Order.{at}

-- the place above k
abbrev pub par : ℕ → ℕ
par k = (k - 1) / 2

-- g has on [0, n) what f has there, in another order
pub record Shuffled (f g : ℕ → ℕ) (n : ℕ) : Type 0 where
  pub to : ℕ → ℕ
  pub back : ℕ → ℕ
  pub to_low : (k : ℕ) → k < n → to k < n
  pub back_low : (k : ℕ) → k < n → back k < n
  pub to_back : (k : ℕ) → k < n → to (back k) ≡ k
  pub back_to : (k : ℕ) → k < n → back (to k) ≡ k
  pub is : (k : ℕ) → k < n → g k ≡ f (to k)

-- of two places, one's content goes before the other's
pub record Total (lt : ℕ → ℕ → Bool) (f : ℕ → ℕ) (n : ℕ) : Type 0 where
  pub turned : (i j : ℕ) → i < n → j < n → (i ≡ j → ⊥) → lt (f i) (f j) ≡ false → lt (f j) (f i) ≡ true

-- each goes after the one above it
pub record Heaped (lt : ℕ → ℕ → Bool) (f : ℕ → ℕ) (n : ℕ) : Type 0 where
  pub edges : (k : ℕ) → 0 < k → k < n → lt (f (par k)) (f k) ≡ true

-- the same but for the one at i, which is on its way up
pub record Up (lt : ℕ → ℕ → Bool) (f : ℕ → ℕ) (n i : ℕ) : Type 0 where
  pub edges : (k : ℕ) → 0 < k → k < n → (k ≡ i → ⊥) → lt (f (par k)) (f k) ≡ true
  pub over : (k : ℕ) → 0 < k → k < n → par k ≡ i → 0 < i → lt (f (par i)) (f k) ≡ true

-- the same but for the one at i, of which nothing is known: it is on its way down
pub record Down (lt : ℕ → ℕ → Bool) (f : ℕ → ℕ) (n i : ℕ) : Type 0 where
  pub edges : (k : ℕ) → 0 < k → k < n → (k ≡ i → ⊥) → (par k ≡ i → ⊥) → lt (f (par k)) (f k) ≡ true
  pub over : (k : ℕ) → 0 < k → k < n → par k ≡ i → 0 < i → lt (f (par i)) (f k) ≡ true

pub record Settled (lt : ℕ → ℕ → Bool) (f g : ℕ → ℕ) (n : ℕ) : Type 0 where
  pub mixed : Shuffled f g n
  pub heap : Heaped lt g n

-- what sift_up does with x, whose place is to be the hole or above it
pub record Rose (by : List ℕ → ℕ → ℕ → Bool) (cap hole x : ℕ) (line out : List ℕ) : Type 0 where
  pub kept : (k : ℕ) → hole < k → at out k ≡ at line k
  pub right : (n : ℕ) → n ≤ cap → hole < n → Total (by line) (at (set line hole x)) n → Up (by line) (at (set line hole x)) n hole → Settled (by line) (at (set line hole x)) (at out) n

-- the child that goes first, of l and l + 1
pub record Chosen (by : List ℕ → ℕ → ℕ → Bool) (cap n l : ℕ) (line : List ℕ) (r : ℕ) : Type 0 where
  pub low : r < n
  pub left : r ≡ l → l + 1 < n → by line (at line (l + 1)) (at line l) ≡ false
  pub which : (r ≡ l) ⊎ ((r ≡ l + 1) × (by line (at line (l + 1)) (at line l) ≡ true))

-- sink leads the hole at 0 down to a place with none below it, whatever x is to fill it
pub record Sank (by : List ℕ → ℕ → ℕ → Bool) (cap n : ℕ) (line out : List ℕ) (r : ℕ) : Type 0 where
  pub low : r < n
  pub kept : (k : ℕ) → n ≤ k → at out k ≡ at line k
  pub right : (x : ℕ) → n ≤ cap → Total (by line) (at (set line 0 x)) n → Down (by line) (at (set line 0 x)) n 0 → Shuffled (at (set line 0 x)) (at (set out r x)) n × Up (by line) (at (set out r x)) n r
