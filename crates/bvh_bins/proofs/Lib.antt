pub mod Whole
pub mod Turns
pub mod Placed
pub mod Numbers
