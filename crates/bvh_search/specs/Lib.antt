pub mod Search
pub mod Field
pub mod Walk
pub mod Demand
pub mod Inside
