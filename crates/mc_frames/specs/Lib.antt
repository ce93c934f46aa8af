pub mod Cmac
pub mod Frames
pub mod Limits
pub mod Opening
pub mod WorkedFrames
