pub mod None
pub mod Rows
