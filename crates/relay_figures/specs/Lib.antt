pub mod Requests
pub mod Scenes
pub mod RelayFigures
