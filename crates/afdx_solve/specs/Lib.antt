pub mod Solved
pub mod Short
pub mod SolvedCascade
pub mod Delays
pub mod Raising
pub mod Laws
pub mod ConfigText
pub mod CascadeText
