-- The mathematics of the exchange; each file builds only on those before it.
pub mod Finite
pub mod Ranks
pub mod Certificates
pub mod Walks
pub mod Leaving
pub mod Runs
pub mod Rounds
pub mod Exchange
pub mod Promises
pub mod Results
pub mod Years
