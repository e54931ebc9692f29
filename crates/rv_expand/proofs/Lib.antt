pub mod Expansions
pub mod Lawful
pub mod Parts
pub mod Powers
pub mod Shifted
pub mod Values
pub mod Wrap
