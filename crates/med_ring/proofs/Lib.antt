pub mod Canonical
pub mod Faults
pub mod MemberLemmas
pub mod OneCause
pub mod OneRing
pub mod Order
pub mod Repeated
