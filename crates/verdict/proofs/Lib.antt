-- The laws of the verdict, over plain values: each function's proof hands its facts to them.
pub mod CollectLaws
pub mod AtomLaws
pub mod DecodeLaws
pub mod ModalityLaws
pub mod EntryLaws
pub mod EvaluationLaws
pub mod TruthLaws
pub mod AnswerLaws
pub mod Promise
pub mod Example
