-- `Calls`: calls one after another. `Going`: the loop over them. `Laws`: however a log is cut, the texts of its parts are its whole text. `Examples`: the
-- texts of the table. `Unique`: one answer.
mod Calls
mod Going
pub mod Laws
pub mod Examples
pub mod Unique
