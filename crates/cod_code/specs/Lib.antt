pub mod Codewords
pub mod Columns
pub mod Laws
pub mod Encoding
pub mod Decoding
pub mod Segments
pub mod SegmentLaws
pub mod Choosing
