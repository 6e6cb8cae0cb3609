pub mod Signed
pub mod Adding
pub mod Faults
pub mod Told
pub mod Embargoed
pub mod FeedSaid
pub mod Demanded
