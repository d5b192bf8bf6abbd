pub mod Kinds
pub mod Refusals
pub mod Searches
pub mod Changes
pub mod Promises
