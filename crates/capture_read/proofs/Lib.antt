pub mod Json
pub mod MembersRead
pub mod TokensRead
pub mod Turns
pub mod Within
pub mod WorkedEntries
