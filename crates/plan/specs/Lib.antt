pub mod Sections
pub mod Records
pub mod Plan
pub mod Nearest
pub mod With
pub mod Inside
