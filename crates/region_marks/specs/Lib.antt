pub mod Regions
pub mod Marked
pub mod Worked
