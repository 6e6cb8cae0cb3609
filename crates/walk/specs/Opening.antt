-- Opening (document 01): what an opening is given, its outcomes in order 2 to 6, 1, 7, 8, and the tips that wait after it.
-- Assumes nothing.
use Rattle.std.specs.Prelude.{ℕ, ◌+◌, ◌*◌, ◌/◌, ◌%◌, Bool, cond, ◌&&◌, ◌||◌, List, [], ◌∷◌, length, eqb, leb, pos, None, Option, Some}
use Rattle.hash.specs.Bytes.{Id, width_of, among, ids_of, if_some}
use Rattle.object.specs.Header.{parent_size}
use Rattle.odb.specs.Store.{store_is_ok}
use Rattle.commitgraph.specs.Graph.{hash_version, graph_head, graph_ok, graph_count}
use Rattle.walk.specs.declared.Settings.{Settings}
use Rattle.walk.specs.declared.Refusal.{Refusal}
use Rattle.walk.specs.declared.Refusal.TheVariants.{BufferTooSmall, InputTooLarge, PartialId, CorruptStore, UnknownGraph, CorruptGraph, TipNotFound, TipUnreadable}
use Rattle.walk.specs.Settings.{timed, cutoff_of, not_before}
use Rattle.walk.specs.Lookup.{world_of}
use Rattle.walk.specs.State.{Walk, State, empty_state, sees, waits, is_empty}

-- the opening's files, lists and settings, all as lent: commit store (book), commit-graph file, tips, hidden tips, excluded (barred) ids
pub record Input : Type 0 where
  pub store : List ℕ
  pub graph : List ℕ
  pub tips : List ℕ
  pub hidden : List ℕ
  pub excluded : List ℕ
  pub settings : Settings

-- "A setting at opening … gives the id width" (document 02, card 13)
abbrev pub width_in : Input → ℕ
width_in i = width_of i.settings.kind

-- the ids of a list, by their width
unfoldable pub list_ids : ℕ → List ℕ → List Id
list_ids width b = ids_of width (length b / width) b

-- "P = tips + hidden tips + ⌊book bytes/48⌋ + N, both lists counted as lent, repeats and barred ids too"; 48 is the length of a parent line,
-- and "P divides the book by 72" where ids have 32 bytes
unfoldable pub P : Input → ℕ
P i = length i.tips / width_in i + length i.hidden / width_in i + length i.store / parent_size (width_in i) + graph_count i.graph

unfoldable pub walk_of : Input → Walk
walk_of i = record {
  world = world_of (width_in i) i.store i.graph;
  settings = i.settings;
  excluded = list_ids (width_in i) i.excluded;
  hidden = list_ids (width_in i) i.hidden;
  fuel = 4 * P i;
}

-- ---- 2 to 6

-- the bytes of 1,024 ids: 20,480 where an id has 20
abbrev pub list_limit : ℕ → ℕ
list_limit width = 1024 * width

-- 2: "book or graph over 16,777,216 bytes, or a list over 1,024 ids (20,480 bytes)"
unfoldable pub sizes_ok : Input → Bool
sizes_ok i =
    leb (length i.store) 16777216 && leb (length i.graph) 16777216
    && leb (length i.tips) (list_limit (width_in i)) && leb (length i.hidden) (list_limit (width_in i)) && leb (length i.excluded) (list_limit (width_in i))

-- 3: "list bytes not a multiple of 20"; "A list must be a multiple of the chosen width"
unfoldable pub whole_ids : Input → Bool
whole_ids i = eqb (length i.tips % width_in i) 0 && eqb (length i.hidden % width_in i) 0 && eqb (length i.excluded % width_in i) 0

-- the first of 2 to 6 that applies. "A zero-length graph means none"; "a graph of the other width is 5"
unfoldable pub refusal : Input → Option Refusal
refusal i =
    let six : Option Refusal = cond (is_empty i.graph || graph_ok (width_in i) i.graph) None (Some CorruptGraph) in
    let five : Option Refusal = cond (is_empty i.graph || graph_head (hash_version i.settings.kind) i.graph) six (Some UnknownGraph) in
    let four : Option Refusal = cond (store_is_ok (width_in i) i.store) five (Some CorruptStore) in
    let three : Option Refusal = cond (whole_ids i) four (Some PartialId) in
    cond (sizes_ok i) three (Some InputTooLarge)

-- ---- 1

-- how long the lent buffers are, in their own elements
pub record Lengths : Type 0 where
  pub names : ℕ
  pub marks : ℕ
  pub levels : ℕ
  pub times : ℕ
  pub line : ℕ
  pub parents : ℕ

-- the bytes of 256 parents' ids: 5,120 where an id has 20
abbrev pub parents_room : ℕ → ℕ
parents_room width = 256 * width

-- "Lent: names 20·P bytes, marks P bytes, levels P u32, times P i64, line 5·P u32, parents 5,120 bytes": every buffer has its size
unfoldable pub room_for : Input → Lengths → Bool
room_for i l =
    leb (width_in i * P i) l.names && leb (P i) l.marks && leb (P i) l.levels && leb (P i) l.times && leb (5 * P i) l.line
    && leb (parents_room (width_in i)) l.parents

-- ---- 7 and 8, and the tips

-- an opening is refused, or accepted and leaves a state
pub data Opening : Type 0 where
  closed : Refusal → Opening
  opened : State → Opening

-- "Tips lose repeats and barred ids": the rest in list order; `had` are those met already
unfoldable pub distinct : List Id → List Id → List Id → List Id
distinct had excluded [] = []
distinct had excluded (x ∷ xs) =
    let again : List Id = distinct had excluded xs in
    let new : List Id = x ∷ distinct (x ∷ had) excluded xs in
    cond (among x had || among x excluded) again new

-- "the rest are seen. Under a time order each remaining tip is read from the book alone; under a cutoff it stays if seconds ≥ cutoff.
-- These tips are admitted, and under First they wait in list order." 7: "time order, tip not in the book", 8: "its header not good
-- through committer"; "the first tip at fault in list order decides which"
unfoldable pub tips_in : Walk → List Id → State → Opening
tips_in w [] st = opened st
tips_in w (x ∷ xs) st =
    let untimed : Opening = tips_in w xs (waits w st x (pos 0)) in
    let read : Opening =
    if_some (w.world.store x) (closed TipNotFound) λ h.
    if_some h.seconds (closed TipUnreadable) λ t.
    let stays : Opening = tips_in w xs (waits w st x t) in
    let turned : Opening = tips_in w xs (sees st x) in
    cond (not_before (cutoff_of w.settings.sorting) t) stays turned in
    cond (timed w.settings.sorting) read untimed

-- "in order 2 to 6, 1, 7, 8"; `room` says whether every lent buffer has its size
unfoldable pub open_tips : Input → Bool → Opening
open_tips i room =
    let w = walk_of i in
    let r = tips_in w (distinct [] w.excluded (list_ids (width_in i) i.tips)) empty_state in
    cond room r (closed BufferTooSmall)

unfoldable pub open_or : Input → Bool → Option Refusal → Opening
open_or i room None = open_tips i room
open_or i room (Some r) = closed r

unfoldable pub open_walk : Input → Bool → Opening
open_walk i room = open_or i room (refusal i)
