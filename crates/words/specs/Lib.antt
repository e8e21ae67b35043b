pub mod Words
pub mod Headers
pub mod Lent
pub mod Rooms
