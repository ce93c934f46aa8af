pub mod Field
pub mod Cipher
pub mod CipherInside
pub mod WorkedBlocks
