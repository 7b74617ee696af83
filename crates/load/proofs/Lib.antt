pub mod UpToFirstFault
pub mod WordsAndLines
pub mod NameLetters
pub mod OperandWords
pub mod OperationWords
pub mod ReadIsWritten
pub mod WrittenIsRead
pub mod ItemChains
pub mod AcceptedIsSheet
pub mod SheetIsAccepted
pub mod Refused
pub mod Laws
pub mod LoopTurns
pub mod LineWalk
pub mod NamePlaces
mod FirstLine
