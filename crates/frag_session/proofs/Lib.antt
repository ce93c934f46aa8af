pub mod Calls
pub mod FirstMoments
pub mod MissingPieces
pub mod WorkedSessions
pub mod Standing
pub mod Telling
