pub mod Together
mod Requests
mod Runs
mod Walk
mod Asked
mod Filled
pub mod Promises
mod Cases
