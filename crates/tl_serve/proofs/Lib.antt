pub mod AskedKeys
pub mod AtOnce
pub mod Driven
pub mod Ends
pub mod InTurn
pub mod Lists
pub mod Proposals
pub mod Shelves
