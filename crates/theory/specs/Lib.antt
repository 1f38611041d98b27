pub mod Trade
pub mod Promise
pub mod Certificate
pub mod Runs
pub mod Statements
pub mod Years
