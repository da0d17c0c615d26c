pub mod Dots
pub mod PageLemmas
pub mod Parents
pub mod RoomLemmas
