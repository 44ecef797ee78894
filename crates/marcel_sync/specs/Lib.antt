pub mod Rows
pub mod Semaphores
