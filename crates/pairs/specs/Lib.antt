-- `Pairs`: the answers of two uploads, place by place, and which of them agree. `Comparison`: the whole text. `Examples`: pairs of uploads and
-- their texts.
pub mod Pairs
pub mod Comparison
pub mod Examples
