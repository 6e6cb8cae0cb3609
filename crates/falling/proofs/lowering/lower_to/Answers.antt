-- `lowering::lower_to` meets its contract: the slot that is found is the one that holds the id. Assumes nothing.
use Rattle.falling.specs.Cells.{slots_in}
use Rattle.falling.proofs.ParentCells.{to-found, to-far, to-vacant, to-full}
use Rattle.hash.specs.Bytes.{width_of}
use Rattle.falling.proofs.lowering.lower_to.Goals as goal

pub returns-then-k-lt4294967296 : goal.returns-then-k-lt4294967296
returns-then-k-lt4294967296 c = let x = c.args in to-found (width_of x.kind) (slots_in x.names.now x.marks.now x.levels.now x.times.now) x.cap x.child c.find_slot.ensures _ c.in-Found.is c.lower_at.ensures

pub returns-else-k-lt4294967296 : goal.returns-else-k-lt4294967296
returns-else-k-lt4294967296 c = let x = c.args in to-far (width_of x.kind) (slots_in x.names.now x.marks.now x.levels.now x.times.now) x.cap x.child c.find_slot.ensures _ c.in-Found.is c.if-k-lt4294967296.false

pub returns-in-Vacant : goal.returns-in-Vacant
returns-in-Vacant c = let x = c.args in to-vacant (width_of x.kind) (slots_in x.names.now x.marks.now x.levels.now x.times.now) x.cap x.child c.find_slot.ensures _ c.in-Vacant.is

pub returns-in-Full : goal.returns-in-Full
returns-in-Full c = let x = c.args in to-full (width_of x.kind) (slots_in x.names.now x.marks.now x.levels.now x.times.now) x.cap x.child c.find_slot.ensures c.in-Full.is
