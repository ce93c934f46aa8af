pub mod WordsHeld
