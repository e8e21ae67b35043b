pub mod Names
pub mod EntryLine
pub mod Lines
pub mod Same
pub mod Whole
