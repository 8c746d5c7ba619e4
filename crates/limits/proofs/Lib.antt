-- The laws of the axis of one voxel.
pub mod Singles
