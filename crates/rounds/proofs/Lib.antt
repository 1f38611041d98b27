pub mod Pointed
pub mod Stands
pub mod Law
