-- Writing a certificate: what the service answers.
pub mod Write
