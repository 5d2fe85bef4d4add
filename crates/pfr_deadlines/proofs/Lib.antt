pub mod BucketLemmas
pub mod FirstLemmas
pub mod FoldLemmas
pub mod OrderLemmas
pub mod WaitLemmas
pub mod WheelLemmas
