-- Lookup (document 01): what the commit-graph file and the commit store say of an object id, and the pairs that painting goes by.
-- The walk is written over `World`, and over nothing else of the two files. Assumes nothing.
use Rattle.std.specs.Prelude.{ℕ, Bool, true, false, cond, List, [], map, eqb, ltb, ℤ, pos, None, Option, Some}
use Rattle.std.specs.Int.Signed.{lt_z}
use Rattle.hash.specs.Bytes.{Id, if_some}
use Rattle.object.specs.Header.{Header, header}
use Rattle.odb.specs.Store.{store_find}
use Rattle.commitgraph.specs.Graph.{graph_find, graph_id, graph_parents, graph_seconds, generation}
pub use Rattle.commitgraph.specs.Graph.{no_generation}
use Rattle.walk.specs.declared.GenThenTime.{GenThenTime}
use Rattle.walk.specs.declared.Refusal.{Refusal}
use Rattle.walk.specs.declared.Refusal.TheVariants.{CommitNotFound, CommitUnreadable, TooManyParents}

-- what the commit-graph file says of an id: it does not list it; it lists it with a corrupt parent list; or with a good one, and then
-- come the parents in order, each with the seconds of its own row, the generation (the level of its pair) and the seconds
pub data Row : Type 0 where
  no_row : Row
  corrupt : Row
  row : List (Id × ℤ) → ℕ → ℤ → Row

-- what the two files say of an id; in the store it is absent, or has a header
pub record World : Type 0 where
  pub graph : Id → Row
  pub store : Id → Option Header

unfoldable pub row_at : ℕ → List ℕ → ℕ → Row
row_at width g p =
    if_some (graph_parents width g p) corrupt λ ps.
    row (map (λ q. (graph_id width g q, graph_seconds width g q)) ps) (generation width g p) (graph_seconds width g p)

unfoldable pub world_of : ℕ → List ℕ → List ℕ → World
world_of width store g = record {
  graph = λ x. if_some (graph_find width g x) no_row (λ p. row_at width g p);
  store = λ x. if_some (store_find width store x) None (λ body. Some (header width body));
}

-- the committer time in the store; none where the commit is absent or its header not good through committer. "Where only seconds are
-- wanted (tips at opening, parents in a next call) parents are not counted."
unfoldable pub store_seconds : World → Id → Option ℤ
store_seconds w x = if_some (w.store x) None (λ h. h.seconds)

-- "from the book, else they are 0"
unfoldable pub seconds_for : World → Id → ℤ
seconds_for w x = if_some (store_seconds w x) (pos 0) (λ t. t)

-- ---- pairs

-- the pair (level, seconds) of a commit
pub record Pair : Type 0 where
  pub generation : ℕ
  pub time : ℤ

-- "A level and a number of seconds are never set against each other: pairs compare levels, then seconds."
unfoldable pub lt_pair : Pair → Pair → Bool
lt_pair a b =
    let r : Bool = cond (eqb a.generation b.generation) (lt_z a.time b.time) false in
    cond (ltb a.generation b.generation) true r

abbrev pub pair_of : GenThenTime → Pair
pair_of g = record { generation = g.generation.0; time = g.time.0 }

-- ---- one commit, read whole

-- a commit cannot be read, or has parents and a pair
pub data Read : Type 0 where
  fail : Refusal → Read
  good : List Id → Pair → Read

-- "A commit is readable if all four parts hold and it has at most 256 parents"; "absent (9), unreadable (10) or crowded (11)"; "of 10
-- and 11 the earlier line decides"; "Without a graph row the level is 0xFFFFFFFF"
unfoldable pub from_store : Option Header → Read
from_store None = fail CommitNotFound
from_store (Some h) =
    let whole : Read = if_some h.seconds (fail CommitUnreadable) (λ s. good h.ids (record { generation = no_generation; time = s })) in
    let authored : Read = cond h.author whole (fail CommitUnreadable) in
    let counted : Read = cond h.crowded (fail TooManyParents) authored in
    cond h.tree counted (fail CommitUnreadable)

-- "the graph comes before the book"; "a corrupt list (here 10)"
unfoldable pub read_row : World → Id → Row → Read
read_row w x no_row = from_store (w.store x)
read_row w x corrupt = fail CommitUnreadable
read_row w x (row ps l s) = good (map (λ p. p.0) ps) (record { generation = l; time = s })

unfoldable pub read : World → Id → Read
read w x = read_row w x (w.graph x)

unfoldable pub parents_of : Read → List Id
parents_of (fail n) = []
parents_of (good ps p) = ps
