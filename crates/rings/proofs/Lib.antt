pub mod Steps
pub mod Marks
pub mod Around
pub mod Found
pub mod Flags
pub mod Law
pub mod Any
