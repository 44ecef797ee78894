-- What the lists of the machine and the labels tell of threads.
pub mod KeyedLemmas
pub mod Births
pub mod Queues
pub mod Subjects
pub mod Seats
pub mod SeatedLabels
pub mod Stages
pub mod Parts
pub mod ListTrees
pub mod InTurn
