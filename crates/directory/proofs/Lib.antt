pub mod Turns
pub mod Texts
pub mod Loops
pub mod Held
pub mod Rules
