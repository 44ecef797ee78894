pub mod Format
pub mod Table
pub mod Fields
pub mod Image
