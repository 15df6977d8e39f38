pub mod Bytes
pub mod Desk
pub mod Meaning
pub mod Promised
