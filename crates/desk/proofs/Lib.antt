pub mod Cut
pub mod Front
pub mod Long
pub mod Promises
pub mod Samples
pub mod Scan
pub mod Telling
