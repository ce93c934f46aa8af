pub mod Copied
pub mod Forms
pub mod NoServer
