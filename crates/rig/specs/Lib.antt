pub mod Meaning
pub mod Rig
