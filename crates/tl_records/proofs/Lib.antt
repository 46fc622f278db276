pub mod LaneSteps
