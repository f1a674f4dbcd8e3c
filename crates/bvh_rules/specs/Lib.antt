pub mod Nodes
pub mod Rules
pub mod Inside
pub mod Check
