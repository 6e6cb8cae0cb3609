-- `stain_id` meets its contract: by the three answers of the table. Assumes nothing.
use Rattle.stain.proofs.Staining.{id-found, id-vacant, id-full}
use Rattle.stain.proofs.stain_id.Goals as goal

pub returns-in-Found : goal.returns-in-Found
returns-in-Found c = id-found c.find_slot-s.ensures c.in-Found.k c.in-Found.is c.stain_slot.ensures

pub returns-in-Vacant : goal.returns-in-Vacant
returns-in-Vacant c = id-vacant c.find_slot-s.ensures _ c.in-Vacant.is

pub returns-in-Full : goal.returns-in-Full
returns-in-Full c = id-full c.find_slot-s.ensures c.in-Full.is
