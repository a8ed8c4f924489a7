-- Going through a certificate: what is left of a run of bytes in a lent buffer, and what each writer of steps writes.
pub mod Wrote
pub mod Steps
