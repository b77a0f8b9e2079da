pub mod Answered
pub mod Inserted
pub mod WorkersAnswered
