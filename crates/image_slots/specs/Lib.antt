pub mod Image
pub mod Parts
pub mod Slots
pub mod HeldSlots
pub mod WorkedImages
