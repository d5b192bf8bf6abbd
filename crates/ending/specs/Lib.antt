pub mod Retries
pub mod DoubleFaults
pub mod Reports
pub mod Acts
