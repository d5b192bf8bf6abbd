pub mod Searches
pub mod Earliest
