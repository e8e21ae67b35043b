-- How close the quotients are, over whole numbers. Assumes nothing.
pub mod Close
mod Near
pub mod Quotient
pub mod Theorems
