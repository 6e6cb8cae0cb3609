-- The state of a walk between two calls, its queue (document 01: the line) and its sets of ids.
-- Assumes nothing.
use Rattle.std.specs.Prelude.{ℕ, suc, Bool, true, false, cond, List, [], ◌∷◌, ℤ, pos}
use Rattle.hash.specs.Bytes.{Id, eq_id}
use Rattle.walk.specs.declared.Settings.{Settings}
use Rattle.walk.specs.Settings.{by_time, goes_before}
use Rattle.walk.specs.Lookup.{World}

-- what a walk goes by: the files, the settings, the excluded ids (barred) and the hidden tips; and how many turns painting may take,
-- which never runs out (`painting_ends`)
pub record Walk : Type 0 where
  pub world : World
  pub settings : Settings
  pub excluded : List Id
  pub hidden : List Id
  pub fuel : ℕ

-- "this walk's state (…: the line in order with its queued seconds, the seen, the frontier, painted or not, graph kept or dropped; …)",
-- and the running numbers of commits "admitted (those that ever waited)" and struck. The queue stands in the order in which commits leave
-- it; a commit that waits in breadth order or under First has 0 for its seconds, which nothing reads
pub record State : Type 0 where
  pub queue : List (Id × ℤ)
  pub seen : Id → Bool
  pub frontier : Id → Bool
  pub painted : Bool
  pub kept : Bool
  pub admitted : ℕ
  pub struck : ℕ

-- the empty set of ids, and one id more in a set
abbrev pub nobody : Id → Bool
nobody x = false

unfoldable pub add : (Id → Bool) → Id → Id → Bool
add f x y = let r = f y in cond (eq_id y x) true r

-- x enters a queue after all that it does not go before: "among equals the first queued" leaves first
unfoldable pub queued : (ℤ → ℤ → Bool) → Id × ℤ → List (Id × ℤ) → List (Id × ℤ)
queued before x [] = x ∷ []
queued before x (y ∷ ys) =
    let r : List (Id × ℤ) = queued before x ys in
    let here : List (Id × ℤ) = x ∷ (y ∷ ys) in
    let there : List (Id × ℤ) = y ∷ r in
    cond (before x.1 y.1) here there

unfoldable pub enter : Walk → Id → ℤ → List (Id × ℤ) → List (Id × ℤ)
enter w x t l = queued (goes_before w.settings) (x, cond (by_time w.settings) t (pos 0)) l

-- the ids of a queue
unfoldable pub ids : List (Id × ℤ) → List Id
ids [] = []
ids (x ∷ xs) = x.0 ∷ ids xs

unfoldable pub is_empty {ℓ} : {A : Type ℓ} → List A → Bool
is_empty [] = true
is_empty (x ∷ xs) = false

-- no tip has been taken yet
abbrev pub empty_state : State
empty_state = record { queue = []; seen = nobody; frontier = nobody; painted = false; kept = true; admitted = 0; struck = 0 }

-- "it is seen"
unfoldable pub sees : State → Id → State
sees st x = record {
  queue = st.queue;
  seen = add st.seen x;
  frontier = st.frontier;
  painted = st.painted;
  kept = st.kept;
  admitted = st.admitted;
  struck = st.struck;
}

-- "it is seen, and waits": x is admitted, with t seconds
unfoldable pub waits : Walk → State → Id → ℤ → State
waits w st x t = record {
  queue = enter w x t st.queue;
  seen = add st.seen x;
  frontier = st.frontier;
  painted = st.painted;
  kept = st.kept;
  admitted = suc st.admitted;
  struck = st.struck;
}

-- the same state with another queue
unfoldable pub with_queue : List (Id × ℤ) → State → State
with_queue l st = record {
  queue = l;
  seen = st.seen;
  frontier = st.frontier;
  painted = st.painted;
  kept = st.kept;
  admitted = st.admitted;
  struck = st.struck;
}
