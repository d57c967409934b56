mod Naturals
pub mod SecondsOrders
mod Cited
