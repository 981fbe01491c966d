pub mod Fronts
pub mod Groups
pub mod Publishing
pub mod Adding
pub mod Ties
pub mod Telling
pub mod Seeing
