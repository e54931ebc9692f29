pub mod Order
pub mod Queues
pub mod Flight
pub mod Firsts
