mod Sets
mod Cover
pub mod Laid
mod Joined
