-- The laws of blocks of lanes and of axes.
pub mod Blocks
pub mod Axes
