-- The four entries: what a call means.
pub mod Call
pub mod Bookkeeping
