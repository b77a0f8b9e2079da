pub mod Baskets
pub mod Events
pub mod Price
pub mod Records
pub mod Walks
