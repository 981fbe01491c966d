pub mod Said
pub mod Status
pub mod Filtered
pub mod Streamed
pub mod Ended
