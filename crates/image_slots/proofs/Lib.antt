pub mod ImageLemmas
pub mod Sound
pub mod WorkedImages
