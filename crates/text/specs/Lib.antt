pub mod Said
pub mod Forms
pub mod Names
pub mod Faults
pub mod Padding
pub mod Addresses
