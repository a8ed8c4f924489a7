-- The modalities over a row of successor sets: the graph that a row holds, and the sets that are worked out from it.
pub mod Row
pub mod Rounds
pub mod Modal
