-- `Text`: the lines of a log, and all that the program writes. `Part`: what the code promises of a part. `Examples`: logs and their texts.
pub mod Text
pub mod Part
pub mod Examples
