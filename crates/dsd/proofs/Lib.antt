pub mod Numbers
pub mod Names
pub mod Fits
pub mod Places
pub mod Views
