pub mod Law
pub mod Tables
pub mod Charts
pub mod Search
pub mod Answered
