pub mod Accepted
pub mod Encoding
pub mod Faults
pub mod Parts
pub mod Positions
pub mod Within
