mod Digits
mod Months
mod Written
mod Blocks
mod Numbers
mod Reading
mod Moments
mod Said
pub mod Answers
mod Order
pub mod Promises
mod Cases
