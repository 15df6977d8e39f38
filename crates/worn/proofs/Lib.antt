pub mod Pairs
pub mod Worn
pub mod Corners
