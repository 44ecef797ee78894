pub mod SameLabels
pub mod LinkLemmas
pub mod Positions
pub mod ClusterLemmas
pub mod SoundLemmas
