pub mod Forms
pub mod Explained
