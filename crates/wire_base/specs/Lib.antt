pub mod Numbered
pub mod Numbers
pub mod Payload
pub mod Rows
pub mod Tables
pub mod Found
pub mod Tests
pub mod WorkedNumbers
