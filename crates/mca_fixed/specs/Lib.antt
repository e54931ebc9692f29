pub mod Decimals
pub mod Padding
pub mod Texts
