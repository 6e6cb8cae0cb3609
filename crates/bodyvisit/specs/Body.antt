-- What the visits of a commit's parents promise: the state after the walk's own visits, and the ids at the start of the buffer parents; on any
-- bytes, that the buffer past these ids is as it was. Assumes nothing.
use Rattle.std.specs.Prelude.{ℕ, ◌*◌, ◌≤◌, ◌<◌, ◌≡◌, true, List, [], map, length, take, get_or, ℤ}
use Rattle.hash.specs.Bytes.{Id, at, width_of}
use Rattle.object.specs.Header.{Header, header}
use Rattle.odb.specs.Store.{store_is_ok}
use Rattle.walk.specs.Opening.{parents_room}
use Rattle.walk.specs.declared.Settings.{Settings}
use Rattle.walk.specs.Settings.{followed}
use Rattle.walk.specs.Lookup.{World, world_of, seconds_for}
use Rattle.walk.specs.Next.{ending}
use Rattle.reading.specs.Body.{refusal_of}
use Rattle.state.specs.declared.Record.{Record}
use Rattle.state.specs.declared.Waiting.{Waiting}
use Rattle.state.specs.Shapes.{waiting_in}
use Rattle.state.specs.Reads.{Memory}
use Rattle.bodyvisit.specs.declared.body.BodyVisited.{BodyVisited}
use Rattle.links.specs.Link.{Visits}
use Rattle.links.specs.Visits.{Past, VisitsAll, VisitsEach}

-- ---- of a body

-- the parents of a commit from the store, each with its seconds there
abbrev pub stored : World → List Id → List (Id × ℤ)
stored w l = map (λ x. (x, seconds_for w x)) l

-- the first n ids of the header h stand end to end at the start of b, where b has room for as many as may be
pub record Stand (width : ℕ) (h : Header) (n : ℕ) (b : List ℕ) : Type 0 where
  pub each : parents_room width ≤ length b → (k : ℕ) → k < n → at b (width * k) width ≡ get_or h.ids k []

-- parent k of the body d, of which n stand in b
pub record VisitsBodyParent (excluded : List ℕ) (settings : Settings) (store d b : List ℕ) (k : ℕ) (r : Record) (m m' : Memory) (r' : Record) : Type 0 where
  pub right : store_is_ok (width_of settings.kind) store ≡ true → (g : List ℕ) → (header (width_of settings.kind) d).tree ≡ true → (n : ℕ) → n ≤ length (header (width_of settings.kind) d).ids → Stand (width_of settings.kind) (header (width_of settings.kind) d) n b → k < n
      → Visits excluded settings r m m' (get_or (header (width_of settings.kind) d).ids k []) (seconds_for (world_of (width_of settings.kind) store g) (get_or (header (width_of settings.kind) d).ids k [])) r'

-- the first n parents of the body d, which stand in b
pub record VisitsParents (excluded : List ℕ) (settings : Settings) (store d b : List ℕ) (n : ℕ) (r : Record) (m m' : Memory) (r' : Record) : Type 0 where
  pub right : store_is_ok (width_of settings.kind) store ≡ true → (g : List ℕ) → n ≤ length (header (width_of settings.kind) d).ids → Stand (width_of settings.kind) (header (width_of settings.kind) d) n b
      → VisitsEach excluded settings r m m' (stored (world_of (width_of settings.kind) store g) (take n (header (width_of settings.kind) d).ids)) r'

-- the parents of a body with the header h that the mode follows, from the record r with w that wait, and why the header is refused
pub record VisitsBody (excluded : List ℕ) (settings : Settings) (store : List ℕ) (h : Header) (r : Record) (w : Waiting) (m m' : Memory) (b b' : List ℕ) (a : BodyVisited) : Type 0 where
  pub parents : a.parents ≡ length (followed settings h.ids)
  pub ends : refusal_of a.ends ≡ ending settings h
  pub right : store_is_ok (width_of settings.kind) store ≡ true → (g : List ℕ) → VisitsAll excluded settings (waiting_in r w) m m' b b' (stored (world_of (width_of settings.kind) store g) (followed settings h.ids)) (waiting_in r a.after)
  pub past : Past (width_of settings.kind) a.parents b b'
