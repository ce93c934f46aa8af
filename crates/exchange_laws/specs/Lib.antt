pub mod Exchange
pub mod Suits
pub mod Moving
pub mod Updating
pub mod EachUpdating
pub mod OnceAtServer
pub mod WorkedExchange
pub mod WorkedStages
