pub mod Oks
pub mod Rows
