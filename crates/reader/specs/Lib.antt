-- The reader of a certificate's steps: what it finds at its place, and where it stands afterwards (`Place`).
pub mod Place
