pub mod Channels
pub mod Tables
