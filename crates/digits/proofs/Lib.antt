mod Reading
mod Pairs
mod Writing
