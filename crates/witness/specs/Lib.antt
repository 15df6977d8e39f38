pub mod Demanded
pub mod Dumped
pub mod Hosted
pub mod Blamed
