-- Runs that tell the walk from what it is easily mistaken for (document 01: "Slips in this trade"), some over the bytes of a commit-graph
-- file; each is a theorem by computation. Assumes nothing.
use Rattle.std.specs.Prelude.{◌≡◌, refl, ℕ, zero, suc, ◌+◌, ◌*◌, cond, List, [], ◌∷◌, ◌++◌, length, replicate, leb, pos, None, Some}
use Rattle.hash.specs.Bytes.{Id, id_bytes, bytes_all}
use Rattle.idlist.specs.IdList.{id_list_all}
use Rattle.object.specs.Header.{header_all}
use Rattle.odb.specs.Store.{store_all}
use Rattle.commitgraph.specs.Graph.{OIDF, OIDL, CDAT, EDGE, row_size, graph_all}
use Rattle.walk.specs.declared.Settings.{Settings}
use Rattle.walk.specs.declared.Sorting.TheVariants.{BreadthFirst}
use Rattle.walk.specs.Opening.{Input}
use Rattle.walk.specs.declared.Refusal.TheVariants.{CommitNotFound, Closed}
use Rattle.walk.specs.Next.{Kind, end, refused, handed, Answer}
use Rattle.walk.specs.Calls.{answers, walk_all}
use Rattle.walk.specs.Runs.{id_for, u32, store_of, names, kinds, says, out, out_at, all, first_only, newest, newest_from, sample, lost, id_wide, names_wide, sample_wide, store_wide}

-- ---- a commit-graph file from rows

-- a row: the commit's number, its two u32 parents, generation and seconds
pub record GraphRow : Type 0 where
  pub name : ℕ
  pub first : ℕ
  pub second : ℕ
  pub level : ℕ
  pub time : ℕ

-- how many rows have a number of at most x
unfoldable pub counted : ℕ → List GraphRow → ℕ
counted x [] = 0
counted x (r ∷ rs) = cond (leb r.name x) 1 0 + counted x rs

-- the fan-out's entries from x on, k of them
unfoldable pub fan_from : ℕ → ℕ → List GraphRow → List ℕ
unfolding counted u32
fan_from zero x rs = []
fan_from (suc k) x rs = u32 (counted x rs) ++ fan_from k (suc x) rs

unfoldable pub id_bytes_of : List GraphRow → List ℕ
unfolding id_wide
id_bytes_of [] = []
id_bytes_of (r ∷ rs) = id_for r.name ++ id_bytes_of rs

-- a row: the tree's id, which is of zeros, and four u32
unfoldable pub row_bytes_of : List GraphRow → List ℕ
unfolding u32
row_bytes_of [] = []
row_bytes_of (r ∷ rs) = replicate id_bytes 0 ++ (u32 r.first ++ (u32 r.second ++ (u32 (r.level * 4) ++ (u32 r.time ++ row_bytes_of rs))))

unfoldable pub edge_bytes_of : List ℕ → List ℕ
unfolding u32
edge_bytes_of [] = []
edge_bytes_of (e ∷ es) = u32 e ++ edge_bytes_of es

-- one row of the table of chunks; offsets are below 2 to the power 32
unfoldable pub chunk_row : ℕ → ℕ → List ℕ
unfolding u32
chunk_row c o = u32 c ++ (u32 0 ++ u32 o)

-- rows by rising number, and the entries of EDGE
unfoldable pub graph_of : List GraphRow → List ℕ → List ℕ
unfolding fan_from id_bytes_of row_bytes_of edge_bytes_of chunk_row
graph_of rs es =
    let n = length rs in
    let rows : ℕ = 1092 + id_bytes * n in
    let edges : ℕ = rows + row_size id_bytes * n in
    67 ∷ 71 ∷ 80 ∷ 72 ∷ 1 ∷ 1 ∷ 4 ∷ 0
    ∷ (chunk_row OIDF 68 ++ (chunk_row OIDL 1092 ++ (chunk_row CDAT rows ++ (chunk_row EDGE edges ++ (chunk_row 0 (edges + 4 * length es)
    ++ (fan_from 256 0 rs ++ (id_bytes_of rs ++ (row_bytes_of rs ++ (edge_bytes_of es ++ replicate id_bytes 0)))))))))

-- a store with a graph file
unfoldable pub input_with : List ℕ → List ℕ → List ℕ → List ℕ → Settings → Input
unfolding names_wide
input_with store graph tips hidden s =
    record { store = store; graph = graph; tips = names tips; hidden = names hidden; excluded = []; settings = s }

-- what k calls say on them
unfoldable pub says_with : List ℕ → List ℕ → List ℕ → List ℕ → Settings → ℕ → List Kind
unfolding kinds input_with
says_with store graph tips hidden s k = kinds (answers (input_with store graph tips hidden s) k)

abbrev none_there : ℕ
none_there = 0x70000000

abbrev last_of : ℕ → ℕ
last_of p = 0x80000000 + p

-- ---- histories

-- 1 at 30 from 3 and 4; 2 at 25 from 4; 3 at 20; 4 at 7 from 5; 5 at 10 from 3: 4 stands twice in painting's queue when it is taken with
-- both marks, and 5 is taken before its second turn
unfoldable pub two_turns : List ℕ
unfolding store_wide
two_turns = store_of (
    record { name = 1; time = 30; from = 3 ∷ 4 ∷ [] } ∷ record { name = 2; time = 25; from = 4 ∷ [] } ∷ record { name = 3; time = 20; from = [] }
    ∷ record { name = 4; time = 7; from = 5 ∷ [] } ∷ record { name = 5; time = 10; from = 3 ∷ [] } ∷ [])

-- 1 at 30 from 2 and 3; 2 at 20; 3 at 7 from 4; 4 at 6 from 2; 5 at 5 from 3
unfoldable pub lent_twice : List ℕ
unfolding store_wide
lent_twice = store_of (
    record { name = 1; time = 30; from = 2 ∷ 3 ∷ [] } ∷ record { name = 2; time = 20; from = [] } ∷ record { name = 3; time = 7; from = 4 ∷ [] }
    ∷ record { name = 4; time = 6; from = 2 ∷ [] } ∷ record { name = 5; time = 5; from = 3 ∷ [] } ∷ [])

-- 1 at 9 from 2, 3 and 4; 2 at 5, 3 at 6, 4 at 6
unfoldable pub fork : List ℕ
unfolding store_wide
fork = store_of (
    record { name = 1; time = 9; from = 2 ∷ 3 ∷ 4 ∷ [] } ∷ record { name = 2; time = 5; from = [] } ∷ record { name = 3; time = 6; from = [] }
    ∷ record { name = 4; time = 6; from = [] } ∷ [])

-- a graph file of its parents alone, where 2 has other seconds
unfoldable pub stale : List ℕ
unfolding graph_of
stale = graph_of (
    record { name = 2; first = none_there; second = none_there; level = 1; time = 8 } ∷ record { name = 3; first = none_there; second = none_there; level = 1; time = 6 }
    ∷ record { name = 4; first = none_there; second = none_there; level = 1; time = 6 } ∷ []) []

-- a graph file of the whole fork: the second parent onward stands in EDGE
unfoldable pub listing : List ℕ
unfolding graph_of
listing = graph_of (
    record { name = 1; first = 1; second = last_of 0; level = 2; time = 9 } ∷ record { name = 2; first = none_there; second = none_there; level = 1; time = 5 }
    ∷ record { name = 3; first = none_there; second = none_there; level = 1; time = 6 } ∷ record { name = 4; first = none_there; second = none_there; level = 1; time = 6 } ∷ [])
    (2 ∷ last_of 3 ∷ [])

-- the same, but EDGE runs out
unfoldable pub cut : List ℕ
unfolding graph_of
cut = graph_of (
    record { name = 1; first = 1; second = last_of 0; level = 2; time = 9 } ∷ record { name = 2; first = none_there; second = none_there; level = 1; time = 5 }
    ∷ record { name = 3; first = none_there; second = none_there; level = 1; time = 6 } ∷ record { name = 4; first = none_there; second = none_there; level = 1; time = 6 } ∷ [])
    (2 ∷ [])

-- 1 at 9 from 3 and 5; 2 at 8 from 3; 3 at 3 from 4; 4 at 2 from 5; 5 at 1
unfoldable pub grown : List ℕ
unfolding store_wide
grown = store_of (
    record { name = 1; time = 9; from = 3 ∷ 5 ∷ [] } ∷ record { name = 2; time = 8; from = 3 ∷ [] } ∷ record { name = 3; time = 3; from = 4 ∷ [] }
    ∷ record { name = 4; time = 2; from = 5 ∷ [] } ∷ record { name = 5; time = 1; from = [] } ∷ [])

-- a graph file from before 2 was made; its levels are the greatest that a row can hold
unfoldable pub earlier : List ℕ
unfolding graph_of
earlier = graph_of (
    record { name = 1; first = 1; second = 3; level = 0x3FFFFFFF; time = 9 } ∷ record { name = 3; first = 2; second = none_there; level = 0x3FFFFFFE; time = 3 }
    ∷ record { name = 4; first = 3; second = none_there; level = 0x3FFFFFFD; time = 2 } ∷ record { name = 5; first = none_there; second = none_there; level = 0x3FFFFFFC; time = 1 } ∷ []) []

-- 1 at 20 from 2 and 5; 2 at 17 from 4; 3 at 19; 4 at 8 from 5; 5 at 3
unfoldable pub onward : List ℕ
unfolding store_wide
onward = store_of (
    record { name = 1; time = 20; from = 2 ∷ 5 ∷ [] } ∷ record { name = 2; time = 17; from = 4 ∷ [] } ∷ record { name = 3; time = 19; from = [] }
    ∷ record { name = 4; time = 8; from = 5 ∷ [] } ∷ record { name = 5; time = 3; from = [] } ∷ [])

-- a graph file of 3, 4 and 5, where 5 has a greater level than its child 4, and 3, which no commit has as a parent, the level l
unfoldable pub rising : ℕ → List ℕ
unfolding graph_of
rising l = graph_of (
    record { name = 3; first = none_there; second = none_there; level = l; time = 19 } ∷ record { name = 4; first = 2; second = none_there; level = 2; time = 8 }
    ∷ record { name = 5; first = none_there; second = none_there; level = 3; time = 3 } ∷ []) []

-- the listing of the fork, but 2 has other seconds, and 4 the level 0
unfoldable pub unlevelled : List ℕ
unfolding graph_of
unlevelled = graph_of (
    record { name = 1; first = 1; second = last_of 0; level = 2; time = 9 } ∷ record { name = 2; first = none_there; second = none_there; level = 1; time = 8 }
    ∷ record { name = 3; first = none_there; second = none_there; level = 1; time = 6 } ∷ record { name = 4; first = none_there; second = none_there; level = 0; time = 6 } ∷ [])
    (2 ∷ last_of 3 ∷ [])

-- ---- what tells them apart

pub record Slips : Type 0 where
  -- a commit taken with both marks does not get STALE itself: 4 has its second turn, 5 comes before it and passes HIDDEN on to 3
  pub not_itself : says two_turns (1 ∷ []) (2 ∷ []) [] (all BreadthFirst) 3 ≡ out 1 ∷ end ∷ end ∷ []
  -- under First painting goes through all parents of a hidden tip: 8 hides 7, its second parent
  pub hides_all : says sample (7 ∷ []) (8 ∷ []) [] (first_only BreadthFirst) 2 ≡ end ∷ end ∷ []
  -- a hidden tip lent twice is queued twice
  pub once : says lent_twice (1 ∷ []) (5 ∷ []) [] (all BreadthFirst) 4 ≡ out 1 ∷ out 2 ∷ end ∷ end ∷ []
  pub twice : says lent_twice (1 ∷ []) (5 ∷ 5 ∷ []) [] (all BreadthFirst) 3 ≡ out 1 ∷ end ∷ end ∷ []
  -- among equals the first queued: 3 before 4
  pub equals : says fork (1 ∷ []) [] [] (all newest) 6 ≡ out_at 1 9 ∷ out_at 3 6 ∷ out_at 4 6 ∷ out_at 2 5 ∷ end ∷ end ∷ []
  -- under First the cutoff does not act after the tips, but a tip that it turned away is seen: 8 does not lead to 6
  pub turned_away : says sample (8 ∷ 6 ∷ []) [] [] (first_only (newest_from 7)) 3 ≡ out 8 ∷ end ∷ end ∷ []
  -- 1 comes from the store, so its parents' seconds do too, and 2 is the oldest; its parents come from their rows
  pub store_child : says_with fork stale (1 ∷ []) [] (all newest) 6
      ≡ out_at 1 9 ∷ handed (id_for 3) (Some 1) (Some (pos 6)) ∷ handed (id_for 4) (Some 1) (Some (pos 6)) ∷ handed (id_for 2) (Some 1) (Some (pos 5)) ∷ end ∷ end ∷ []
  -- a commit without a row comes before all that have one: 2 is taken first and hides 3, so 4 and 5 are met with both marks. Were it taken
  -- last, 5 would have passed as visible only, and would be handed out
  pub no_row-first : says_with grown earlier (1 ∷ []) (2 ∷ []) (all BreadthFirst) 3 ≡ handed (id_for 1) (Some 0x3FFFFFFF) None ∷ end ∷ end ∷ []
  -- card 6: 3 has level 0, though neither tip reaches it, so no level is used: 4 is taken before 5 and hides it. Were 0 the lowest level, or 3
  -- alone without one, 5 would go before 4 as visible only, and would be handed out, as with any other level
  pub never-computed : says_with onward (rising 0) (1 ∷ []) (2 ∷ []) (all BreadthFirst) 3 ≡ out 1 ∷ end ∷ end ∷ []
  pub computed : says_with onward (rising 1) (1 ∷ []) (2 ∷ []) (all BreadthFirst) 3 ≡ out 1 ∷ handed (id_for 5) (Some 3) None ∷ end ∷ []

pub slips : Slips
unfolding says says_with all first_only sample_wide two_turns lent_twice fork stale grown earlier onward rising bytes_all id_list_all header_all store_all graph_all walk_all
slips = record {
  not_itself = refl;
  hides_all = refl;
  once = refl;
  twice = refl;
  equals = refl;
  turned_away = refl;
  store_child = refl;
  no_row-first = refl;
  never-computed = refl;
  computed = refl;
}

-- ---- answers in all their fields

unfoldable pub ids_for : List ℕ → List Id
unfolding id_wide
ids_for [] = []
ids_for (n ∷ ns) = id_for n ∷ ids_for ns

-- a kind, parents, and the numbers of commits admitted, struck and waiting
abbrev pub whole : Kind → List ℕ → ℕ → ℕ → ℕ → Answer
whole k ps a s w = record { kind = k; parents = ids_for ps; zone = None; admitted = a; struck = s; waiting = w }

-- the same of a commit from the store, whose committer line has the zone +0000
abbrev pub zoned_whole : Kind → List ℕ → ℕ → ℕ → ℕ → Answer
zoned_whole k ps a s w = record { kind = k; parents = ids_for ps; zone = Some (pos 0); admitted = a; struck = s; waiting = w }

pub record Fields : Type 0 where
  -- tips 8 and 5, hide 5: 5 waited and is struck
  pub struck : answers (input_with sample [] (8 ∷ 5 ∷ []) (5 ∷ []) (all BreadthFirst)) 2
      ≡ zoned_whole (handed (id_for 8) None None) (6 ∷ 7 ∷ []) 4 1 2 ∷ zoned_whole (handed (id_for 6) None None) (5 ∷ []) 4 1 1 ∷ []
  -- from a graph row come the level and the parents, in EDGE from the second on; under a time order the seconds that a commit was queued with
  pub graph-row : answers (input_with fork listing (1 ∷ []) [] (all newest)) 2
      ≡ whole (handed (id_for 1) (Some 2) (Some (pos 9))) (2 ∷ 3 ∷ 4 ∷ []) 4 0 3 ∷ whole (handed (id_for 3) (Some 1) (Some (pos 6))) [] 4 0 2 ∷ []
  -- card 6: where a row has level 0 no answer shows a level; parents and seconds are the rows' still
  pub no-levels : answers (input_with fork unlevelled (1 ∷ []) [] (all newest)) 2
      ≡ whole (handed (id_for 1) None (Some (pos 9))) (2 ∷ 3 ∷ 4 ∷ []) 4 0 3 ∷ whole (handed (id_for 2) None (Some (pos 8))) [] 4 0 2 ∷ []
  -- a corrupt list drops the graph for good
  pub no-graph : answers (input_with fork cut (1 ∷ []) [] (all newest)) 2
      ≡ zoned_whole (handed (id_for 1) None (Some (pos 9))) (2 ∷ 3 ∷ 4 ∷ []) 4 0 3 ∷ zoned_whole (handed (id_for 3) None (Some (pos 6))) [] 4 0 2 ∷ []
  -- under First neither the other parents nor the seconds
  pub first-parent : answers (input_with fork [] (1 ∷ []) [] (first_only newest)) 1 ≡ zoned_whole (handed (id_for 1) None None) (2 ∷ []) 2 0 1 ∷ []
  -- a refused commit is used up
  pub not_found : answers (input_with lost [] (1 ∷ []) [] (all BreadthFirst)) 3
      ≡ zoned_whole (handed (id_for 1) None None) (9 ∷ []) 2 0 1 ∷ whole (refused CommitNotFound) [] 2 0 0 ∷ whole end [] 2 0 0 ∷ []
  -- painting's own refusal strikes all that waits
  pub not-painted : answers (input_with lost [] (1 ∷ []) (1 ∷ []) (all BreadthFirst)) 2 ≡ whole (refused CommitNotFound) [] 1 1 0 ∷ whole end [] 1 1 0 ∷ []
  -- a refused opening: 12, and zeros
  pub closed_record : answers (input_with lost [] (9 ∷ []) [] (all newest)) 1 ≡ whole (refused Closed) [] 0 0 0 ∷ []

pub fields : Fields
unfolding input_with ids_for all first_only sample_wide fork lost listing unlevelled cut bytes_all id_list_all header_all store_all graph_all walk_all
fields = record {
  struck = refl;
  graph-row = refl;
  no-levels = refl;
  no-graph = refl;
  first-parent = refl;
  not_found = refl;
  not-painted = refl;
  closed_record = refl;
}
