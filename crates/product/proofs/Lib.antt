pub mod Calls
pub mod Promises
pub mod Judged
pub mod Points
pub mod Numbers
