pub mod Graph
pub mod Chain
pub mod Search
