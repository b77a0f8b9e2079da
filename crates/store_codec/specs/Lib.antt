pub mod Compound
pub mod Keys
pub mod Numbers
pub mod Records
