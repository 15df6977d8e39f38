pub mod Facts
pub mod Trails
pub mod Whole
pub mod True
pub mod Called
