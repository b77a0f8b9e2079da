pub mod Arrivals
pub mod Cells
pub mod Length
pub mod Moves
pub mod Order
pub mod Place
pub mod Tabled
