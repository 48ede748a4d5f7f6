-- What is written for a line, what is read of it, and the room that both outputs take.
pub mod Written
pub mod Read
pub mod Room
