pub mod Reciprocal
pub mod Columns
pub mod Drawn
pub mod Ahead
