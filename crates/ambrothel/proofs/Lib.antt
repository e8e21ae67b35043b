pub mod Promises
mod Rooms
mod Columns
