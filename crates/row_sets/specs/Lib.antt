pub mod Rows
pub mod Kept
pub mod Ready
pub mod Agenda
