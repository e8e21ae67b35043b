mod LineEnds
pub mod BadLines
