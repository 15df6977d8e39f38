pub mod Dump
pub mod Lines
pub mod Meaning
pub mod Records
