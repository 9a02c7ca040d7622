pub mod Certificates
pub mod Generated
