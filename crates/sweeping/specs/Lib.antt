pub mod Sweeps
