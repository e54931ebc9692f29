pub mod Turning
pub mod Telling
pub mod RowTimes
pub mod Agendas
pub mod Changing
pub mod Shares
