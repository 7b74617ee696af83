pub mod Operations
pub mod Lines
pub mod WordMeanings
pub mod Faults
