-- What a visit keeps; after which visits others are in vain; the visits to a list, one after another; the two lists of a pass; and passes until one changes nothing.
pub mod VisitsKeepOrder
pub mod InVain
pub mod TwoLists
pub mod ListVisits
pub mod PassesRepeat
-- A settled state: its serials and its numbers, what it comes to, and that the next one's tables are ready.
pub mod ReadyTables
pub mod SerialsOpened
pub mod StateEnds
