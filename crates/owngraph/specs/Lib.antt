pub mod OwnGraph
pub mod Instances
