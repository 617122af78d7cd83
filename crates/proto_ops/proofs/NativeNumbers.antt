pub mod Pair
pub mod Shifts
