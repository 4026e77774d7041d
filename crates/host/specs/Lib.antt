pub mod Query
pub mod Views
pub mod Write
