pub mod Fields
pub mod Grammar
pub mod Reading
pub mod Numbers
pub mod Opened
