-- `Numbering`: what stands before the lines. `Listing`: the definition. `Fill`: the promise of the code. `Whole`: all that the programs write.
-- `Examples`: inputs and their texts.
pub mod Numbering
pub mod Listing
pub mod Fill
pub mod Whole
pub mod Examples
