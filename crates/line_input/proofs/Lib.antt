pub mod Ends
mod Wholes
