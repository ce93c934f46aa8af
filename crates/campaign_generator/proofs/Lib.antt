pub mod Decimals
pub mod Drawing
pub mod ImageFile
pub mod LineForms
pub mod ScriptForms
