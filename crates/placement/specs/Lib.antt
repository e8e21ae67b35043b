pub mod Sets
pub mod Cover
