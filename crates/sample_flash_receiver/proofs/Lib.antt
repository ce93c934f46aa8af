pub mod Rooms
pub mod Heard
pub mod Serves
