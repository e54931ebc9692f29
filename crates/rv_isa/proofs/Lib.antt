pub mod Below
pub mod Cuts
pub mod Names
pub mod OpNumbers
pub mod OneSpelling
pub mod Spellable
pub mod Texts
