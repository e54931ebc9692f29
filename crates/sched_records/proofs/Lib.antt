pub mod Steps
pub mod TokenSteps
pub mod NumberSteps
pub mod ListSteps
pub mod NameSet
pub mod OneAnswer
pub mod NameOrder
pub mod FewRecords
