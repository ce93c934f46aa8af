pub mod Shards
pub mod WorkedShards
