mod Entries
mod Turns
