-- At most 256 parents: a header's parent lines are counted, and a row's list ends at 256.
-- Assumes nothing.
use Rattle.std.specs.Prelude.{Some}
use mathlib.Core.Path.{◌≡◌, ap}
use Prim.Native.Nat.{ℕ, ◌≤◌}
use mathlib.Core.List.{List}
use native.Mathlib.Omega.{arith}
use lib.ListN.{length, length-map}
use lib.IntN.{ℤ}
use Rattle.hash.specs.Bytes.{Id}
use Rattle.hash.proofs.Tests.{by_cases, some_of, some_in}
use Rattle.object.specs.Header.{Header, header, most}
use Rattle.object.proofs.Headers.{header_lines, no_header}
use Rattle.odb.specs.Store.{store_find}
use Rattle.commitgraph.specs.Graph.{graph_id, graph_seconds}
use Rattle.commitgraph.proofs.Edges.{parents-few}
use Rattle.walk.specs.Lookup.{row, world_of}
use Rattle.walk.specs.Opening.{Input, walk_of, width_in}
use Rattle.walk.proofs.Rows.{is_row}

header-few : (width : ℕ) (b : List ℕ) → length (header width b).ids ≤ most
header-few width b =
    by_cases (header width b).tree
    (λ e. (header_lines width b e).few)
    (λ e. let n : length (header width b).ids ≡ 0 = ap (λ (h : Header). length h.ids) (no_header width b e) in omega arith)

pub rows_of : (i : Input) (x : Id) (ps : List (Id × ℤ)) (l : ℕ) (s : ℤ) → (walk_of i).world.graph x ≡ row ps l s → length ps ≤ most
unfolding walk_of
rows_of i x ps l s e =
    let r = is_row (width_in i) i.store i.graph x ps l s e in
    omega (arith, ap length r.same, length-map {B = Id × ℤ} r.places (λ (q : ℕ). (graph_id (width_in i) i.graph q, graph_seconds (width_in i) i.graph q)), parents-few (width_in i) i.graph r.place r.places r.listed)

pub headers_of : (i : Input) (x : Id) (h : Header) → (walk_of i).world.store x ≡ Some h → length h.ids ≤ most
unfolding walk_of world_of
headers_of i x h e =
    let o = some_of (store_find (width_in i) i.store x) (λ body. Some (header (width_in i) body)) h e in
    let k : header (width_in i) o.0 ≡ h = some_in o.2 in
    omega (arith, header-few (width_in i) o.0, ap (λ (q : Header). length q.ids) k)
