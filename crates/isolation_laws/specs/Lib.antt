pub mod Isolation
pub mod EachHeadline
pub mod PairTold
pub mod CrossingFrames
pub mod AtMoments
pub mod WorkedMoments
