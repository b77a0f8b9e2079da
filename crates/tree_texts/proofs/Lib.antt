pub mod Heads
pub mod LastWithin
pub mod Lent
pub mod MappedBounds
pub mod Prefixes
pub mod Ranges
pub mod TextPrefixes
pub mod Utf8Order
