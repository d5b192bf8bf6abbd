pub mod Sheets
pub mod Reasons
