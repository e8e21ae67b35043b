pub mod Column
pub mod Gathering
