pub mod Graph
