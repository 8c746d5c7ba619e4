-- Which entry a word asks for, where the calls stand and what they ask for, and the code's own bookkeeping.
pub mod Bookkeeping
pub mod Calls
pub mod Entries
