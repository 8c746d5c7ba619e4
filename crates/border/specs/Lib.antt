-- The border modes: the fold, the manual's rule, and what holds the one to the other.
pub mod Fold
pub mod Manual
pub mod Once
pub mod Landing
pub mod Outside
pub mod Worked
