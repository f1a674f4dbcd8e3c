pub mod Table
pub mod Members
pub mod Numbers
