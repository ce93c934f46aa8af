pub mod Limits
pub mod Table
pub mod SetupRefusal
pub mod Reading
pub mod Tests
pub mod Fragment
pub mod WorkedSpellings
