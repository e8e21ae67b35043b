pub mod Ordered
pub mod Ranks
