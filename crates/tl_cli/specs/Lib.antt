-- The definitions of what the program does with its words.
pub mod Ending
pub mod Named
pub mod Told
pub mod Version
pub mod Job
pub mod Lasting
pub mod InBucket
pub mod Inner
