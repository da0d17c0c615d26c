pub mod Absent
pub mod Listing
pub mod Measure
pub mod Memory
pub mod Place
pub mod Snapshots
pub mod Untold
pub mod Uploads
