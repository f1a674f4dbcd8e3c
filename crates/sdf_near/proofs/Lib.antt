pub mod Sizes
pub mod Far
