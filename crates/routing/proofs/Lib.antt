pub mod Ranks
pub mod Found
pub mod Upper
pub mod Chosen
pub mod Folding
