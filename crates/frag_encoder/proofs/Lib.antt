pub mod Pieces
pub mod Listing
pub mod Summing
pub mod Counting
pub mod Filling
pub mod Blocks
pub mod WorkedFiles
