pub mod Cuts
pub mod Hosts
pub mod Urls
pub mod Responses
pub mod Askings
