pub mod Device
pub mod Ends
