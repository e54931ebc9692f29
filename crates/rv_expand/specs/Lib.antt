pub mod Constant
pub mod Expansion
pub mod Forms
pub mod Operands
pub mod Value
