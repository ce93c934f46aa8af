pub mod Answer
pub mod Bytes
pub mod Calls
pub mod Held
pub mod WorkedAnswers
