pub mod Squares
pub mod Tested
