pub mod Told
pub mod Fates
pub mod Deciding
pub mod Lines
pub mod Explanation
pub mod Latest
pub mod Asking
pub mod Knowing
