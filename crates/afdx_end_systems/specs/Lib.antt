pub mod LinkFrames
pub mod Handovers
pub mod Receptions
pub mod ReadPorts
pub mod StandsFor
pub mod Laws
pub mod Worked
