pub mod Firsts
pub mod Keys
pub mod Wiped
pub mod Equivalences
