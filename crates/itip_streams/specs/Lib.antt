pub mod Written
pub mod Once
pub mod Visible
pub mod Folders
pub mod Sources
pub mod Told
pub mod Parts
