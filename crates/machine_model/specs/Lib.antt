pub mod Fixed
pub mod FixedLaw
pub mod Meaning
pub mod Uses
pub mod Valid
