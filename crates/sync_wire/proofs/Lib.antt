pub mod Known
pub mod Fields
pub mod Only
pub mod Spellings
pub mod Decided
pub mod WorkedSpellings
