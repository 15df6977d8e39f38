pub mod Turned
pub mod Books
pub mod Laying
