-- The laws of the modalities over a row of successor sets.
pub mod LawsMember
pub mod LawsNext
pub mod LawsRounds
pub mod LawsOnce
