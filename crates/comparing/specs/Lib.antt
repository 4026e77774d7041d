-- In the order in which to read them. `Call`: one call, as turns, one after another. `Run`: any history of calls. `Next`: what the code finds first in
-- what is left of an upload. `Parts`: what its functions promise.
pub mod Call
pub mod Run
pub mod Next
pub mod Parts
