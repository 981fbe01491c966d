pub mod Firsts
pub mod Picking
pub mod Askings
pub mod Becoming
pub mod OneFate
pub mod Outcomes
