pub mod ExactLine
pub mod TautRecursion
pub mod First
pub mod CertFaults
pub mod CheckerSteps
pub mod Optimality
