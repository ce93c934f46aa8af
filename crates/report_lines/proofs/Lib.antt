pub mod Outcomes
pub mod Lines
pub mod Behind
pub mod WorkedLines
pub mod Places
pub mod Texts
