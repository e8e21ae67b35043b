pub mod States
pub mod Roles
pub mod Laid
