-- The limits that document 01 sets, and the axis of one voxel.
pub mod Limits
