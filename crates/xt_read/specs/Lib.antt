pub mod Run
pub mod Progress
pub mod Steps
pub mod References
pub mod ContentTest
pub mod Faults
pub mod Front
pub mod FrontSteps
