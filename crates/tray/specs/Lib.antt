pub mod Slots
pub mod Trays
