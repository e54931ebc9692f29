pub mod Due
pub mod Skip
pub mod Clear
pub mod Parts
