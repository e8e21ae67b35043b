pub mod Tests
pub mod Runs
pub mod Parts
mod Names
pub mod Numbers
pub mod Laws
