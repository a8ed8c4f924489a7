-- The verdict: what evaluation gives, and what the services answer.
pub mod Kinds
pub mod Modality
pub mod Evaluation
pub mod Verdict
