pub mod Lent
pub mod Sent
pub mod Inside
