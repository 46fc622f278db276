-- What evidence of a fork is, and what it shows.
pub mod Evidence
