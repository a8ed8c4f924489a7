-- The laws of the framing and of the printed line, over plain values: each function's proof hands its facts to them.
pub mod FrontLaws
pub mod TextLaws
pub mod FramingLaws
pub mod LineLaws
pub mod Promise
pub mod Example
