-- `Over`: a line's end, over which the next part goes. `Found`, `Alike`: what stands first on a side, and whether two such agree. `Turned`, `Filled`: one
-- turn, and the loop. `Carried`, `Runs`: what is written, over any pieces. `Progress`: it is never stuck. `Unique`: one answer.
pub mod Over
pub mod Found
pub mod Alike
pub mod Turned
pub mod Filled
pub mod Carried
pub mod Runs
pub mod Progress
pub mod Unique
