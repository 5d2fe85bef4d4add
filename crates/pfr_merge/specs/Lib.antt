pub mod Arrivals
pub mod Laws
pub mod MergeReading
pub mod MergeStepping
pub mod MergedCaptures
pub mod Merging
pub mod Opening
