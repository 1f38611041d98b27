pub mod Likeness
pub mod Steps
pub mod Places
pub mod Sheets
pub mod Written
pub mod Agreed
pub mod Rows
pub mod Accepts
