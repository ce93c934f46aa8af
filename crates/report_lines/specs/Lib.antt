pub mod Faults
pub mod Texts
pub mod Devices
pub mod Sessions
pub mod HeldTail
pub mod Lines
pub mod After
pub mod WorkedLines
