pub mod Writing
pub mod Escaping
pub mod Reading
pub mod LineReading
pub mod InARow
pub mod Decimals
mod Fronts
