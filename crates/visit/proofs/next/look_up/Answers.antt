-- `visit::next::look_up` meets its contract: it is that of `find`, for the cache in use and the id's own bytes. Assumes nothing.

use Rattle.visit.proofs.next.look_up.Goals as goal

pub returns : goal.returns
returns c = rw c.cache_of-cache.ensures at (rw c.id_slice.ensures at c.find.ensures)
