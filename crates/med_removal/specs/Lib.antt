pub mod Going
pub mod Marked
pub mod Named
pub mod Picking
pub mod Plan
