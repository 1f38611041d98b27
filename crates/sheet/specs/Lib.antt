pub mod Sheet
pub mod Exchange
pub mod Check
