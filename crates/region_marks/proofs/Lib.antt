pub mod Walks
pub mod Between
pub mod Walked
