pub mod FaultWords
pub mod LogsFile
pub mod LogList
pub mod ReadLogs
pub mod State
pub mod StateFaults
pub mod ReadState
pub mod Inner
