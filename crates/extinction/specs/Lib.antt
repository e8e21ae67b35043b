pub mod Extinction
pub mod Found
