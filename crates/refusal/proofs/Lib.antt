-- The laws of the first check that applies, and what is known where none does.
pub mod Firsts
pub mod Admitting
pub mod Pointing
