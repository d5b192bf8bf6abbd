pub mod Lies
pub mod Calls
