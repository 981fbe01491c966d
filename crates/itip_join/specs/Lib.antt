pub mod Bounds
pub mod Ranked
pub mod Lifted
pub mod Optional
pub mod KeyByKey
pub mod Alive
pub mod Killed
pub mod Changes
