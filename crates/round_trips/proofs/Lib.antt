-- `Frames`: a payload through its frame. `Records`: each record. `Bursts`: several frames of channels.
pub mod Frames
pub mod Records
pub mod Bursts
