pub mod First
pub mod Sooner
