-- The laws of words and bytes.
pub mod Numbers
-- The library's words of eight bytes. No crate above speaks of it.
pub mod Library
