mod Common
mod Slots
