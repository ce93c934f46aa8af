pub mod Held
pub mod Plan
pub mod Requests
pub mod Saving
pub mod Sent
pub mod WorkedFields
