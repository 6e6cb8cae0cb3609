-- `table::insert` meets its contract: where the search found the id or no room nothing is written; else the id and its mark are
-- written in the vacant slot, and what that keeps is a law. Assumes nothing.
use native.Mathlib.Omega.{arith}
use Rattle.hashtable.proofs.TableInsert.{as-found, as-full, as-vacant}
use borrow.Author.Rules.{rules}
use Rattle.hashtable.proofs.table.insert.Goals as goal

pub bounds-marks-k : goal.bounds-marks-k
bounds-marks-k c = let f = c.find_slot-r.ensures.free c.in-Vacant.k c.in-Vacant.is in
    omega (arith, f.low, f.sizes.fits.for_marks)

pub returns-in-Found : goal.returns-in-Found
returns-in-Found c = as-found c.find_slot-r.ensures _ c.in-Found.is

pub returns-in-Full : goal.returns-in-Full
returns-in-Full c = as-full c.find_slot-r.ensures _ c.in-Full.is

pub returns-in-Vacant : goal.returns-in-Vacant
returns-in-Vacant c =
    as-vacant c.find_slot-r.ensures _ c.in-Vacant.is c.set_nth.ensures
