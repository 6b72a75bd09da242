pub mod Head
pub mod Laws
pub mod Reading
pub mod Record
pub mod Spans
pub mod Sparse
