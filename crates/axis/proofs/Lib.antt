-- The laws of one axis.
pub mod Weights
pub mod Coordinates
pub mod Lengths
pub mod Reaches
pub mod Inside
pub mod Points
pub mod Folding
pub mod Settling
pub mod Singles
pub mod Worked
