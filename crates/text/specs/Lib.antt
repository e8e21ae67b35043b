pub mod Blanks
pub mod Runs
pub mod Numbers
