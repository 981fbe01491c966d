pub mod Equal
pub mod Walk
pub mod Puts
pub mod Steps
pub mod TakingBack
pub mod Under
pub mod Folds
