pub mod Frame
pub mod FormFactor
pub mod Inside
