-- What the visits of a row's parents promise: the state after the walk's own visits, and the ids at the start of the buffer parents; and where the
-- row's list is corrupt, that nothing was changed. Assumes nothing.
use Rattle.std.specs.Prelude.{ℕ, ◌+◌, ◌*◌, ◌≤◌, ◌<◌, ◌≡◌, true, List, [], length, take, get_or, ℤ, pos, None, Option, Some}
use Rattle.hash.specs.Bytes.{Id, set_down, width_of}
use Rattle.object.specs.Header.{most}
use Rattle.commitgraph.specs.Graph.{graph_ok, layout_of, parents_in}
use Rattle.commitgraph.specs.declared.Layout.{Layout}
use Rattle.commitgraph.specs.declared.Level.{Level}
use Rattle.walk.specs.declared.Settings.{Settings}
use Rattle.walk.specs.Settings.{followed}
use Rattle.walk.specs.Lookup.{row, row_at}
use Rattle.reading.specs.Row.{level_of, row_read_of}
use Rattle.reading.specs.declared.row.RowRead.{RowRead}
use Rattle.state.specs.declared.Record.{Record}
use Rattle.state.specs.declared.Waiting.{Waiting}
use Rattle.state.specs.Shapes.{waiting_in}
use Rattle.state.specs.Reads.{Memory}
use Rattle.links.specs.Link.{Visits}
use Rattle.links.specs.Visits.{Past, VisitsAll}
use Rattle.rowvisit.specs.declared.row.RowVisited.{RowVisited}

-- the id x is set down as that of parent k, within the bytes of its place
pub record SetsParent (width : ℕ) (k : ℕ) (x : Id) (b b' : List ℕ) : Type 0 where
  pub down : k < most → length x ≤ width → b' ≡ set_down b (width * k) x
  pub past : Past width (k + 1) b b'

-- parent k of the row at position p is set down and visited
pub record VisitsRowParent (excluded : List ℕ) (settings : Settings) (g : List ℕ) (l : Layout) (p k : ℕ) (r : Record) (m m' : Memory) (b b' : List ℕ) (r' : Record) : Type 0 where
  pub right : l ≡ layout_of (width_of settings.kind) g → (ps : List (Id × ℤ)) (v : ℕ) (t : ℤ) → row_at (width_of settings.kind) g p ≡ row ps v t → k < length ps
      → Visits excluded settings r m m' (get_or ps k ([], pos 0)).0 (get_or ps k ([], pos 0)).1 r' × (b' ≡ set_down b (width_of settings.kind * k) (get_or ps k ([], pos 0)).0)
  pub past : Past (width_of settings.kind) (k + 1) b b'

-- the first n parents of the row at position p
pub record VisitsRow (excluded : List ℕ) (settings : Settings) (g : List ℕ) (l : Layout) (p n : ℕ) (r : Record) (m m' : Memory) (b b' : List ℕ) (r' : Record) : Type 0 where
  pub right : graph_ok (width_of settings.kind) g ≡ true → l ≡ layout_of (width_of settings.kind) g → (ps : List (Id × ℤ)) (v : ℕ) (t : ℤ) → row_at (width_of settings.kind) g p ≡ row ps v t → n ≤ length ps → VisitsAll excluded settings r m m' b b' (take n ps) r'
  pub past : Past (width_of settings.kind) n b b'

-- how many of n parents are followed
pub record Follows (settings : Settings) (n k : ℕ) : Type 0 where
  pub right : (ps : List (Id × ℤ)) → n ≡ length ps → k ≡ length (followed settings ps)
  pub few : k ≤ n

-- a row of which k parents were visited, with the level c, and those that wait then
abbrev pub visited : Waiting → ℕ → Level → RowVisited
visited w k c = record { after = w; parents = k; level = c }

-- by what the list is found to be: "Nothing may be set down or admitted before the whole list has been found good", so of a corrupt one every lent
-- byte is as it was; of a good one of n parents, with the level c, those that the mode follows are visited, from the record r with w that wait
abbrev pub VisitedBy : Option RowRead → List ℕ → Settings → List ℕ → Layout → ℕ → Record → Waiting → Memory → Memory → List ℕ → List ℕ → List ℕ → List ℕ → Option RowVisited → Type 0
VisitedBy None excluded settings g l p r w m m' v v' b b' a = (a ≡ None) × (m' ≡ m) × (v' ≡ v) × (b' ≡ b)
VisitedBy (Some z) excluded settings g l p r w m m' v v' b b' a =
    (k : ℕ) × (w' : Waiting) × (a ≡ Some (visited w' k z.level)) × Follows settings z.parents k × VisitsRow excluded settings g l p k (waiting_in r w) m m' b b' (waiting_in r w')

-- the parents of the row at position p, with the levels v before and v' after
pub record VisitsCached (excluded : List ℕ) (settings : Settings) (g : List ℕ) (l : Layout) (p : ℕ) (r : Record) (w : Waiting) (m m' : Memory) (v v' b b' : List ℕ) (a : Option RowVisited) : Type 0 where
  pub judged : VisitedBy (row_read_of (level_of (width_of settings.kind) g l p) (parents_in (width_of settings.kind) g l p)) excluded settings g l p r w m m' v v' b b' a
