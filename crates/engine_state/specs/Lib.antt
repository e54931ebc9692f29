pub mod State
pub mod Flight
pub mod Writes
pub mod Parts
pub mod InTurn
