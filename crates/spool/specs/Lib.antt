pub mod Faults
pub mod Guards
pub mod Meaning
pub mod Short
pub mod Uses
