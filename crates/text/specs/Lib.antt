pub mod Report
pub mod Page
