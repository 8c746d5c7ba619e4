-- The laws of codes and counts.
pub mod Counting
pub mod Covering
