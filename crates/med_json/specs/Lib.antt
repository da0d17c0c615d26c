pub mod Blames
pub mod Borrowed
pub mod Tree
