pub mod Cells
pub mod InNor
