-- The pad of edge copies.
pub mod Edge
-- The code's own bookkeeping. No promise speaks of it.
pub mod Bookkeeping
