pub mod Prefixes
pub mod Orders
pub mod Firsts
pub mod Ranks
pub mod Tables
pub mod Unbettered
