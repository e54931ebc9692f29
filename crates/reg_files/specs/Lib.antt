pub mod Shape
pub mod Files
pub mod Held
