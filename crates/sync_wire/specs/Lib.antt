pub mod Table
pub mod Reading
pub mod Tests
pub mod WorkedSpellings
