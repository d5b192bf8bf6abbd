pub mod Faults
pub mod Values
