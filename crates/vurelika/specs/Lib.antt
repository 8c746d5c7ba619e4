-- The door for C: what each call answers and leaves.
pub mod Door
