pub mod ByIndex
pub mod PlaceSteps
pub mod SizedRooms
pub mod ForeignSteps
pub mod StoreSteps
pub mod WorkedPlaces
