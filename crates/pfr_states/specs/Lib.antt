pub mod Answers
pub mod Awaited
pub mod Indexed
pub mod KeyHash
pub mod Keyed
pub mod Laws
pub mod RuleCounts
pub mod States
