pub mod Bytes
pub mod Chained
pub mod Lending
pub mod Zeros
