-- The laws of a guide, over plain values: each function's proof hands its facts to them.
pub mod TowardLaws
pub mod NearestLaws
pub mod SideLaws
pub mod LeadLaws
pub mod Promise
