pub mod NamedOps
pub mod Walks
pub mod PartsAt
pub mod UsesMet
pub mod AnyOf
pub mod UseSteps
