pub mod Making
pub mod Meaning
pub mod Numbers
pub mod Promised
