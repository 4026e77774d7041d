-- In the order in which to read them. `State`: what the code's reader stands for. `Reader`: what each public function promises. `Session`: any run of
-- calls. `Seen`: what a call's promise leaves one of. `Parts`: what the functions inside promise.
pub mod State
pub mod Reader
pub mod Session
pub mod Seen
pub mod Parts
