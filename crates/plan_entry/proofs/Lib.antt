pub mod Answers
pub mod Given
pub mod Accepts
pub mod Sound
pub mod Entered
pub mod Made
