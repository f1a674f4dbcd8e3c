pub mod Shapes
pub mod Boxes
