-- The laws of the door for C.
pub mod Empty
pub mod Doors
pub mod Answers
pub mod Lent
pub mod Same
