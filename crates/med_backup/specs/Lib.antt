pub mod Backups
pub mod Facts
pub mod Placing
pub mod Sections
pub mod Sources
pub mod Walked
