pub mod Times
pub mod Order
pub mod Formed
