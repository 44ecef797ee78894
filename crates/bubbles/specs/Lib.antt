pub mod Rows
pub mod Forests
pub mod Picking
pub mod Standing
pub mod Changes
pub mod Covering
pub mod Nesting
