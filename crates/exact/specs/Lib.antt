-- The words of this crate's contracts and laws.
pub mod Rounded
pub mod Whole
pub mod Floor
pub mod Round
pub mod Within
pub mod Same
-- The code's own bookkeeping. No promise speaks of it.
pub mod Bookkeeping
