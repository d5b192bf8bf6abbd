pub mod Refusals
pub mod HandOuts
pub mod Readings
pub mod Outcomes
pub mod Answers
