pub mod Boxes
pub mod Inside
