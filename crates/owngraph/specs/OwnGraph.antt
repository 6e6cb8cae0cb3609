-- A store beside the graph file that is written from it (document 02, card 4): "Our reader must accept each such file and find it in agreement", and such a
-- store always passes the tested opening of card 1. Assumes nothing.
use Rattle.std.specs.Prelude.{◌≡◌, ℕ, ◌%◌, ◌≤◌, ◌<◌, true, List, length, take, None, Ok}
use Rattle.hash.specs.Bytes.{Id, width_of}
use Rattle.hash.specs.declared.Kind.{Kind}
use Rattle.odb.specs.Store.{standing_entries}
use Rattle.odb.specs.Lookup.{entry_id}
use Rattle.levels.specs.Levels.{level_of}
use Rattle.levels.specs.StoreGraph.{graph_in}
use Rattle.graphwrite.specs.Writing.{Writes}
use Rattle.walk.specs.Lookup.{world_of, lt_pair}
use Rattle.walk.specs.State.{State}
use Rattle.walk.specs.Opening.{Input, list_ids, list_limit, refusal, room_for, opened, open_walk}
use Rattle.walk.specs.Reach.{Mem, links}
use Rattle.walk.specs.Demand.{Agrees, pair_at}
use Rattle.reach.specs.Tested.{tested_refusal}
use Rattle.traverse.specs.declared.Opened.{Opened}
use Rattle.traverse.specs.Contract.{Lent, lengths_of}
use Rattle.traverse.specs.Demand.{Delivered}
use Rattle.opentested.specs.Contract.{TestedOpenSays}

-- ---- in agreement

-- of every id, in the store or not: the graph g agrees with the store b; the level in the pair of each commit is the one that the rule gives it; and along
-- every parent link the pair falls, whatever the clocks
pub record InAgreement (w : ℕ) (b g : List ℕ) : Type 0 where
  pub agrees : (x : Id) → Agrees (world_of w b g) x
  pub levels : (k : ℕ) → k < standing_entries w b → (pair_at (world_of w b g) (entry_id w b k)).generation ≡ level_of (graph_in w b) k
  pub falls : (x p : Id) → Mem p (links (world_of w b g) x) → lt_pair (pair_at (world_of w b g) p) (pair_at (world_of w b g) x) ≡ true

-- ---- the opening

-- the store has an entry under x
pub record Held (w : ℕ) (b : List ℕ) (x : Id) : Type 0 where
  pub entry : ℕ
  pub below : entry < standing_entries w b
  pub is : entry_id w b entry ≡ x

-- whole ids, at most 1,024
pub record WholeList (w : ℕ) (l : List ℕ) : Type 0 where
  pub few : length l ≤ list_limit w
  pub whole : length l % w ≡ 0

-- an opening of the store b beside the graph g, of this kind of ids, with any other settings and excluded ids, and any tips and hidden tips that the
-- store holds
pub record OpeningOf (kind : Kind) (b g : List ℕ) (i : Input) : Type 0 where
  pub same_kind : i.settings.kind ≡ kind
  pub store : i.store ≡ b
  pub graph : i.graph ≡ g
  pub tips : WholeList (width_of kind) i.tips
  pub hidden : WholeList (width_of kind) i.hidden
  pub excluded : WholeList (width_of kind) i.excluded
  pub tips-held : (x : Id) → Mem x (list_ids (width_of kind) i.tips) → Held (width_of kind) b x
  pub hidden_held : (x : Id) → Mem x (list_ids (width_of kind) i.hidden) → Held (width_of kind) b x

-- none of 2 to 8 and none of 13 to 15 applies
pub record Passes (i : Input) : Type 0 where
  pub two_to_six : refusal i ≡ None
  pub state : State
  pub seven_and_eight : open_walk i true ≡ opened state
  pub tests : tested_refusal i ≡ None

-- ---- the claims, of any call that wrote n bytes from the store b into an output

-- "a store with its own written graph always passes the tested opening", with the lent memory of its size
unfoldable pub OwnGraphPasses : Kind → List ℕ → Type 0
OwnGraphPasses kind b =
    (s s' out out' : List ℕ) (n : ℕ) → Writes kind b s s' out out' (Ok n) → (i : Input) → OpeningOf kind b (take n out') i
    → (m : Lent) → room_for i (lengths_of m) ≡ true → (o : Opened) (m' : Lent) → TestedOpenSays i m o m' → o.answer.outcome ≡ (Ok tt)

-- and so every list of next calls after it is the listing of the third demand, whatever the clocks
unfoldable pub OwnGraphListing : Kind → List ℕ → Type 0
OwnGraphListing kind b =
    (s s' out out' : List ℕ) (n : ℕ) → Writes kind b s s' out out' (Ok n) → (i : Input) → OpeningOf kind b (take n out') i
    → (m : Lent) → room_for i (lengths_of m) ≡ true → (o : Opened) (m' : Lent) → TestedOpenSays i m o m' → Delivered i o m'
