-- The laws of checking, over plain values: each function's proof hands its facts to them. Then what is promised (`Promise`), and document 01's
-- marked cases (`Example`).
pub mod ConditionLaws
pub mod StepLaws
pub mod TakenLaws
pub mod ReadingLaws
pub mod WalkLaws
pub mod EachLaws
pub mod StartLaws
pub mod ArmLaws
pub mod LeafLaws
pub mod CheckLaws
pub mod ByteLaws
pub mod CertificateLaws
pub mod AnswerLaws
pub mod Promise
pub mod Example
