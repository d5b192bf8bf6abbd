pub mod Buffers
pub mod Encoding
pub mod Refusals
pub mod Answers
pub mod Trips
