pub mod Table
pub mod Ranges
