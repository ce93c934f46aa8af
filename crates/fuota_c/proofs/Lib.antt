pub mod Forms
pub mod Decodings
