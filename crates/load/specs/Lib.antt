pub mod Parsing
pub mod RefusalText
pub mod LoadingLaws
pub mod Loading
pub mod Naming
