pub mod Limits
pub mod Rows
pub mod Sums
pub mod Stretch
pub mod ArenaInside
pub mod Steps
pub mod WorkedRows
