pub mod Places
pub mod HandingOut
pub mod Reports
pub mod Performing
pub mod Answering
pub mod Sweeping
pub mod Giving
pub mod Arriving
