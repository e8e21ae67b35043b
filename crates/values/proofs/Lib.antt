pub mod Values
pub mod Places
