pub mod Pastes
pub mod Pieces
pub mod Sizes
pub mod Roomy
pub mod Trips
pub mod Backs
pub mod Promises
