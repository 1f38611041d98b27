pub mod Format
pub mod Reads
