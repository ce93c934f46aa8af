pub mod Entries
pub mod Members
pub mod WorkedEntries
