pub mod Encoding
pub mod Fragments
pub mod Laws
pub mod WorkedFiles
