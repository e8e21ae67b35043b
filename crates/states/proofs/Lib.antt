pub mod Sums
pub mod Laws
pub mod Roles
pub mod Arrays
pub mod Fits
