mod Chosen
mod Numbers
mod Shown
pub mod Asked
mod Determined
