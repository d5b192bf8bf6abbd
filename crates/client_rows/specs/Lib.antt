pub mod Clients
pub mod WhiteLists
