pub mod EntryLine
pub mod Listing
