-- The laws of a text.
pub mod Texts
