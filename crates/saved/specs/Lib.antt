pub mod Form
pub mod Save
pub mod Parser
pub mod Lent
