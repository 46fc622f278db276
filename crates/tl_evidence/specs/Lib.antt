-- The check of evidence that a log forked.
pub mod ForkCommand
pub mod Inner
