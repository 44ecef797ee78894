pub mod Lemmas
pub mod Finding
pub mod Order
pub mod Choosing
pub mod Apart
pub mod Paths
