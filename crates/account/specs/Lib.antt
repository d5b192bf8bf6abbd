pub mod Records
pub mod Deeds
pub mod Accounts
pub mod Laws
pub mod Faith
pub mod Moves
