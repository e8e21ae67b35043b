mod Complement
pub mod Stored
