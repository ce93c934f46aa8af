pub mod NumberLaws
pub mod Putting
pub mod RowLaws
pub mod Decided
pub mod WorkedNumbers
pub mod Spelled
