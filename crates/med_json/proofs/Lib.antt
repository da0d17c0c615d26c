pub mod BorrowedLemmas
pub mod JsonTrees
mod NumberLemmas
pub mod TreeLemmas
