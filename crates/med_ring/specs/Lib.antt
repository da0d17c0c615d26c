pub mod Blames
pub mod Host
pub mod Members
pub mod Ring
pub mod Token
pub mod Twice
pub mod Written
