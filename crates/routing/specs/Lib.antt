pub mod Rows
pub mod Making
pub mod Choice
pub mod Best
pub mod Ranked
