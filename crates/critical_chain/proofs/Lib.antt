pub mod Chains
pub mod Labels
pub mod Choices
pub mod Orders
pub mod Founds
pub mod One
pub mod Exists
