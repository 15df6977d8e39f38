pub mod Ascii
pub mod Digits
pub mod Lines
pub mod Meaning
pub mod Shown
