-- `Steps`: the text, pair by pair. `Laws`: what the text is for. `Examples`: the worked pairs.
pub mod Steps
pub mod Laws
pub mod Examples
