pub mod Names
pub mod Resources
pub mod Checks
pub mod Before
pub mod Parts
pub mod UseOrder
pub mod Illness
