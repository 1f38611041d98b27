pub mod RingText
pub mod PageText
pub mod Columns
pub mod PageWidth
mod Digits
