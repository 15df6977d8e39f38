pub mod Culprit
pub mod Meaning
