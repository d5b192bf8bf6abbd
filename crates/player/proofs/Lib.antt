pub mod Ranges
pub mod Arriving
pub mod Stepping
pub mod Beginning
