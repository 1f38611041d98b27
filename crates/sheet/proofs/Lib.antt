pub mod Writing
pub mod Promise
pub mod Checked
pub mod Traders
pub mod Written
pub mod Rest
pub mod Rings
