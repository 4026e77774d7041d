-- `Numberings`: what stands before the lines. `Said`: the line of what a call says. `Listings`: the listing, call by call. `Filled`: the loop over the
-- calls. `Laws`: however the input is cut, the lines are those of the reading's answers. `Programs`: where has the lines of list. `Examples`: the texts
-- of the table. `Unique`: one answer.
pub mod Numberings
pub mod Said
pub mod Listings
pub mod Filled
pub mod Laws
pub mod Programs
pub mod Examples
pub mod Unique
