pub mod Hits
pub mod Turns
pub mod Scans
pub mod Singles
pub mod Counts
pub mod Meaning
