-- What is printed, by the numbers that are read and by what the engines answer, and the room that it takes.
pub mod Printed
