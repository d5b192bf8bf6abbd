mod Frees
pub mod Settled
