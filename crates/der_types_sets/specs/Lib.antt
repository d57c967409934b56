pub mod Sets
pub mod Lends
pub mod Ascending
pub mod Lent
pub mod Rearranged
pub mod Opened
