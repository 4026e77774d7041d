-- `State`: the bytes of a state. `Calls`: a call, the end and a reset over it. `Answer`: what is answered, in eight bytes. `Session`: any run of entries. `Seen`: what a
-- call leaves one of.
pub mod State
pub mod Calls
pub mod Answer
pub mod Session
pub mod Seen
