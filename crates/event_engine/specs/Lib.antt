pub mod Turn
pub mod Tells
pub mod Sound
