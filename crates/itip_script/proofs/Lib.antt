pub mod FirstLines
pub mod Digits
pub mod Stretches
pub mod Cuttings
pub mod Spellings
pub mod Jobs
pub mod Wishes
