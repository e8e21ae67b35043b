mod Units
pub mod Days
pub mod Dates
pub mod Order
pub mod Cases
