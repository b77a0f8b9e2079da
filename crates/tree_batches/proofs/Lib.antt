mod Answered
mod Descending
mod Neighbours
mod Places
mod Writing
