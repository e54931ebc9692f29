pub mod Going
pub mod SameRule
pub mod Flight
pub mod Heads
pub mod Rows
pub mod Told
pub mod Changes
pub mod Entering
