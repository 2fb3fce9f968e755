pub mod Blocks
pub mod Heap
pub mod HeapLaw
pub mod Law
