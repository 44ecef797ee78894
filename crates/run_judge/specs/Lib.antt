pub mod Links
pub mod Nets
pub mod Judged
