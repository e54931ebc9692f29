mod PlaceSteps
mod SeenSteps
pub mod Told
