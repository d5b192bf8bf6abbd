pub mod Words
pub mod Refusals
pub mod Admissions
pub mod Listed
