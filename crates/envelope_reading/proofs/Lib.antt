mod Answered
pub mod Laws
