-- `commit::find` meets its contract: the row that the graph's lookup found, else what the store's lookup found. Assumes nothing.
use mathlib.Core.Path.{◌≡◌, sym}
use Rattle.commit.proofs.Found.{by_row, past-graph, without-graph}
use borrow.Author.Rules.{rules}
use Rattle.commit.proofs.find.Goals as goal

pub returns-in-Some-lookup_near : goal.returns-in-Some-lookup_near
returns-in-Some-lookup_near c =
    rw (c.in-Some.is, c.in_graph.ensures) (by_row c.args.store.now _ c.lookup_near.ensures c.in-Some-lookup_near.is)

pub returns-in-None-lookup_near : goal.returns-in-None-lookup_near
returns-in-None-lookup_near c =
    rw (c.in-Some.is, c.in_store.ensures) (past-graph c.args.store.now _ c.lookup_near.ensures c.in-None-lookup_near.is c.locate_near.ensures)

pub returns-in-None : goal.returns-in-None
returns-in-None c = rw (c.in-None.is, c.in_store-in-None.ensures) (without-graph c.args.graph.now c.args.store.now _ c.locate_near-in-None.ensures)
