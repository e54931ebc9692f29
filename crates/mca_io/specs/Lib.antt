pub mod Calls
pub mod Devices
pub mod MemShelf
pub mod MemSink
pub mod Texts
