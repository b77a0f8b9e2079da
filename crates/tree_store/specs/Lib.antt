pub mod Changes
pub mod Laws
pub mod Refusal
pub mod Store
