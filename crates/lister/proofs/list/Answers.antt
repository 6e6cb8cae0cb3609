-- `list` meets its contract: the driver's task Ids, as a listing. Assumes nothing.
use Rattle.lister.proofs.ListSaid.{list-says}
use borrow.Author.Rules.{rules}
use Rattle.driver.proofs.drive.Reads as drive-reads
use Rattle.lister.proofs.listing_of.Reads as listing-of-reads
use Rattle.lister.proofs.list.Goals as goal

pub returns : goal.returns
returns c = list-says c.drive.ensures c.listing_of.ensures
