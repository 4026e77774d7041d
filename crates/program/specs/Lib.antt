-- `Words`: words of a command line. `Answers`: what one argument asks for, and the status of a text. `Counts`: how many bytes came to a buffer.
pub mod Words
pub mod Answers
pub mod Counts
