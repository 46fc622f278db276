mod Others
mod Given
mod VerifyRuns
mod Making
mod CommandRuns
