pub mod Bar
pub mod Steps
