pub mod Rows
pub mod Wakes
pub mod Flight
