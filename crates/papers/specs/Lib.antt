pub mod Paper
pub mod Papers
pub mod Faults
pub mod Trust
