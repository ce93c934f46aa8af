pub mod Grammar
pub mod Reading
pub mod Texts
pub mod HeldMessage
pub mod MessageInside
pub mod WorkedTexts
pub mod WorkedPayloads
