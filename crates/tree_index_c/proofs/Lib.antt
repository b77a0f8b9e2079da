mod Boxed
mod Filled
mod Joined
mod Parted
mod Popped
mod Prefixes
mod Walking
mod Words
