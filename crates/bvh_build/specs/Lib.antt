pub mod Build
pub mod Encode
pub mod Tables
pub mod Inside
