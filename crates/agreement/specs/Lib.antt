pub mod Agreement
pub mod Told
