pub mod SetSteps
pub mod AscendingSteps
pub mod LentOrders
pub mod Arranged
