pub mod Groups
pub mod Sharings
