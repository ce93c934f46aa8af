pub mod Apart
pub mod Faults
pub mod Filled
pub mod Lengths
pub mod WorkedFrames
