pub mod Waiting
pub mod Queues
pub mod Flight
pub mod Lanes
