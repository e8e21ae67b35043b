mod Found
mod Pixels
mod Measured
mod Calls
pub mod Promises
pub mod Model
pub mod Cases
