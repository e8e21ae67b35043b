-- The laws that the check uses, and how far points are from the exact quotients. Assumes nothing.
pub mod Laws
pub mod Distance
