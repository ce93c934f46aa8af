pub mod Draws
pub mod Firmware
pub mod Script
pub mod Forms
pub mod ImageFile
pub mod WorkedSeed
