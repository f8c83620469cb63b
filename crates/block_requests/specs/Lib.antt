pub mod Faults
pub mod Transfers
pub mod RoundTrip
pub mod Judged
