-- The laws of the stored forms, over plain values: each function's proof hands its facts to them.
pub mod RangeLaws
pub mod ImageLaws
pub mod RefusalLaws
pub mod RecordLaws
pub mod OperandLaws
pub mod Decision
pub mod ReadingLaws
pub mod ReadableLaws
pub mod Example
pub mod TreeLaws
pub mod VariableLaws
pub mod RuledLaws
pub mod RootLaws
pub mod Promise
pub mod CodedLaws
