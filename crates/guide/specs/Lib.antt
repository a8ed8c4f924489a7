-- What a writer goes by along a walk.
pub mod Sides
pub mod Toward
