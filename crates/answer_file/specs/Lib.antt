-- What a word stands for, and what a comparison counts.
pub mod Numbers
pub mod Replays
