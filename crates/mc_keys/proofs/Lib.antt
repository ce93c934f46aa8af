pub mod WorkedKeys
