-- The laws of a writer of steps, over plain values: each function's proof hands its facts to them.
pub mod RunLaws
pub mod WroteLaws
pub mod EachLaws
pub mod AfLaws
pub mod AlongLaws
pub mod KindLaws
pub mod WriterLaws
pub mod StepLaws
