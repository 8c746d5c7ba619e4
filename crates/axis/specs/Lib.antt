-- One axis: coordinates, lengths, weights, neighbours, the record of an output index, and whether one of its neighbours was folded.
pub mod Coordinate
pub mod Length
pub mod Weights
pub mod Neighbours
pub mod Point
pub mod Folded
pub mod Settled
pub mod Worked
-- The code's own bookkeeping. No promise speaks of it.
pub mod Bookkeeping
