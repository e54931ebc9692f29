pub mod Count
pub mod First
pub mod Search
mod Four
mod Words
