-- Checking a certificate: the four variables as one value, the two sides, what the readers of steps say, the header, what a check answers, and the
-- certificate of a derivation.
pub mod Reading
pub mod Cause
pub mod Header
pub mod Check
pub mod Certificate
