pub mod Steps
pub mod TakingIn
pub mod Promises
