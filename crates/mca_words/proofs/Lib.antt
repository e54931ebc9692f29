pub mod InRange
pub mod LoadAlone
pub mod Numbers
pub mod OneAnswer
pub mod Steps
