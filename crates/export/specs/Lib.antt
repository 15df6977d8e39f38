pub mod Dumps
pub mod Mapped
pub mod Meaning
pub mod Ticks
pub mod Who
