-- The laws of sets of stages, over any width. A proof of this crate or above cites them and looks at no number's digits itself.
pub mod LawsBit
pub mod LawsMember
pub mod LawsBytes
pub mod LawsFits
pub mod LawsCount
pub mod LawsLowest
pub mod LawsWalk
pub mod LawsRow
pub mod LawsStored
